-- Rows behind others, and the text of the page that shows them.
use Rattle.std.proofs.Common.{◌≡◌, ◌∙◌, ◌+◌, ◌++◌, ◌∷◌, [], ℕ, false, true, List, ap, codes, map, pos, refl, sym, take}
use Rattle.std.proofs.lemmas.List.{append-nil, append_assoc}
use Rattle.doc_tree.specs.Doc.{Doc, docs_of, whole, words}
use Rattle.doc_tree.specs.Written.{docs_text, text}
use Rattle.search_query.specs.Pages.{behind, counted, page_doc, with_commas}

behind_last : (rows : List (List ℕ)) (row : List ℕ) → behind (rows ++ row ∷ []) ≡ (behind rows ++ codes ",") ++ row
behind_last [] row = ap (λ z. codes "," ++ z) (append-nil row)
behind_last (first ∷ rows) row =
    ap (λ z. codes "," ++ (first ++ z)) (behind_last rows row ∙ append_assoc (behind rows) (codes ",") row)
    ∙ ap (λ z. codes "," ++ z) (sym (append_assoc first (behind rows) (codes "," ++ row)))
    ∙ sym (append_assoc (codes "," ++ (first ++ behind rows)) (codes ",") row)

-- one row more
pub behind_more : (rows : List (List ℕ)) (i : ℕ) (row : List ℕ) → take (i + 1) rows ≡ take i rows ++ row ∷ [] → behind (take (i + 1) rows) ≡ (behind (take i rows) ++ codes ",") ++ row
behind_more rows i row more = ap behind more ∙ behind_last (take i rows) row

-- the texts of documents behind another, and the bracket
others_text : (docs : List Doc) → docs_text true (docs_of docs) ≡ behind (map text docs) ++ codes "]"
others_text [] = refl
others_text (doc ∷ docs) =
    ap (λ z. codes "," ++ (text doc ++ z)) (others_text docs)
    ∙ ap (λ z. codes "," ++ z) (sym (append_assoc (text doc) (behind (map text docs)) (codes "]")))

-- the texts of documents with commas between, and the bracket
pub rows_text : (docs : List Doc) → docs_text false (docs_of docs) ≡ with_commas (map text docs) ++ codes "]"
rows_text [] = refl
rows_text (doc ∷ docs) = ap (λ z. text doc ++ z) (others_text docs) ∙ sym (append_assoc (text doc) (behind (map text docs)) (codes "]"))

-- ---- the page

-- what is put together from the front on reads from the front on
pub nine : (a b c d e f g h i : List ℕ) → (((((((a ++ b) ++ c) ++ d) ++ e) ++ f) ++ g) ++ h) ++ i ≡ a ++ (b ++ (c ++ (d ++ (e ++ (f ++ (g ++ (h ++ i)))))))
nine a b c d e f g h i =
    append_assoc ((((((a ++ b) ++ c) ++ d) ++ e) ++ f) ++ g) h i
    ∙ append_assoc (((((a ++ b) ++ c) ++ d) ++ e) ++ f) g (h ++ i)
    ∙ append_assoc ((((a ++ b) ++ c) ++ d) ++ e) f (g ++ (h ++ i))
    ∙ append_assoc (((a ++ b) ++ c) ++ d) e (f ++ (g ++ (h ++ i)))
    ∙ append_assoc ((a ++ b) ++ c) d (e ++ (f ++ (g ++ (h ++ i))))
    ∙ append_assoc (a ++ b) c (d ++ (e ++ (f ++ (g ++ (h ++ i)))))
    ∙ append_assoc a b (c ++ (d ++ (e ++ (f ++ (g ++ (h ++ i))))))

-- a key with a number, and what stands behind
counted_then : (key : List ℕ) (count : ℕ) (rest : List ℕ) → counted key count ++ rest ≡ text (words key) ++ (codes ":" ++ (text (whole (pos count)) ++ rest))
counted_then key count rest = append_assoc (text (words key)) (codes ":" ++ text (whole (pos count))) rest

-- the text of the page is its parts, one behind the other
pub page_parts : (docs : List Doc) (start total : ℕ)
    → codes "{" ++ (text (words (codes "rows")) ++ (codes ":[" ++ (with_commas (map text docs) ++ (codes "]," ++ (counted (codes "start") start ++ (codes "," ++ (counted (codes "total") total ++ codes "}"))))))) ≡ text (page_doc docs start total)
page_parts docs start total =
    ap (λ z. codes "{" ++ (text (words (codes "rows")) ++ (codes ":[" ++ (with_commas (map text docs) ++ (codes "]," ++ z)))))
    (counted_then (codes "start") start (codes "," ++ (counted (codes "total") total ++ codes "}"))
    ∙ ap (λ z. text (words (codes "start")) ++ (codes ":" ++ (text (whole (pos start)) ++ (codes "," ++ z)))) (counted_then (codes "total") total (codes "}")))
    ∙ ap (λ z. codes "{" ++ (text (words (codes "rows")) ++ (codes ":[" ++ z))) (
    sym (append_assoc (with_commas (map text docs)) (codes "]") (codes "," ++ (text (words (codes "start")) ++ (codes ":" ++ (text (whole (pos start)) ++ (codes "," ++ (text (words (codes "total")) ++ (codes ":" ++ (text (whole (pos total)) ++ codes "}")))))))))
    ∙ ap (λ z. z ++ (codes "," ++ (text (words (codes "start")) ++ (codes ":" ++ (text (whole (pos start)) ++ (codes "," ++ (text (words (codes "total")) ++ (codes ":" ++ (text (whole (pos total)) ++ codes "}"))))))))) (sym (rows_text docs)))
