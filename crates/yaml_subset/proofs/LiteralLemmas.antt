-- The text of a literal, line by line.
use Rattle.std.proofs.Common.{◌≡◌, ◌&&◌, ℕ, Bool, true, false, List, [], ◌∷◌, ◌++◌, drop, Option, Some, None, if◌then◌else◌, is_none, refl, ap, ap₂, sym, ◌∙◌, append_assoc}
use Rattle.yaml_subset.specs.Signs.{indent, is_blank, is_marker}
use Rattle.yaml_subset.specs.Literal.{a_held, add, all_blank, cut_at, feed, fits, held_text, joined, literal_text, own_indent}
use Rattle.yaml_subset.specs.declared.literal.Held.{Held}

-- ---- one line more

pub blank_is : (line : List ℕ) (h next : Held) → is_marker line ≡ false → is_blank line ≡ true → next ≡ a_held h.indent h.text (h.feeds ++ 10 ∷ []) → Some next ≡ (if fits h.indent line then Some (add line h) else None)
blank_is line h next marker blank is = rw (marker, blank) (ap Some is)

-- ---- all lines

abbrev pub adds : List (List ℕ) → Held → Held
adds [] h = h
adds (line ∷ lines) h = adds lines (add line h)

abbrev pub held_of : List (List ℕ) → Held
held_of own = adds own (a_held None [] [])

pub adds_more : (own : List (List ℕ)) (line : List ℕ) (h : Held) → adds (own ++ line ∷ []) h ≡ add line (adds own h)
adds_more [] line h = refl
adds_more (l ∷ own) line h = adds_more own line (add l h)

-- a line that isn't blank, and one that is
add_at : (blank : Bool) (line : List ℕ) (o : Option ℕ) (text feeds : List ℕ) → is_blank line ≡ blank
    → add line (a_held o text feeds) ≡ (if blank then a_held o text (feeds ++ 10 ∷ []) else a_held (Some (cut_at o line)) (text ++ (feeds ++ drop (cut_at o line) line)) (10 ∷ []))
add_at blank line o text feeds is = rw is refl

adds_indent_some : (lines : List (List ℕ)) (n : ℕ) (text feeds : List ℕ) → (adds lines (a_held (Some n) text feeds)).indent ≡ Some n
adds_indent_some [] n text feeds = refl
adds_indent_some (line ∷ lines) n text feeds = at (is_blank line) refl
    (adds_indent_some lines n text (feeds ++ 10 ∷ [])) (adds_indent_some lines n (text ++ (feeds ++ drop n line)) (10 ∷ []))
  where
    at : (b : Bool) → is_blank line ≡ b → (adds lines (a_held (Some n) text (feeds ++ 10 ∷ []))).indent ≡ Some n → (adds lines (a_held (Some n) (text ++ (feeds ++ drop n line)) (10 ∷ []))).indent ≡ Some n
        → (adds lines (add line (a_held (Some n) text feeds))).indent ≡ Some n
    at true is one two = ap (λ (h : Held). (adds lines h).indent) (add_at true line (Some n) text feeds is) ∙ one
    at false is one two = ap (λ (h : Held). (adds lines h).indent) (add_at false line (Some n) text feeds is) ∙ two

adds_indent_none : (lines : List (List ℕ)) (text feeds : List ℕ) → (adds lines (a_held None text feeds)).indent ≡ own_indent lines
adds_indent_none [] text feeds = refl
adds_indent_none (line ∷ lines) text feeds = at (is_blank line) refl (adds_indent_none lines text (feeds ++ 10 ∷ []))
  where
    at : (b : Bool) → is_blank line ≡ b → (adds lines (a_held None text (feeds ++ 10 ∷ []))).indent ≡ own_indent lines
        → (adds lines (add line (a_held None text feeds))).indent ≡ (if is_blank line then own_indent lines else Some (indent line))
    at true is one = ap (λ (h : Held). (adds lines h).indent) (add_at true line None text feeds is) ∙ one ∙ rw is refl
    at false is one =
        ap (λ (h : Held). (adds lines h).indent) (add_at false line None text feeds is) ∙ adds_indent_some lines (indent line) (text ++ (feeds ++ drop (indent line) line)) (10 ∷ []) ∙ rw is refl

-- the indent of the lines so far
pub held_indent : (own : List (List ℕ)) → (held_of own).indent ≡ own_indent own
held_indent own = adds_indent_none own [] []

own_first : (line : List ℕ) (lines : List (List ℕ)) → is_blank line ≡ false → own_indent (line ∷ lines) ≡ Some (indent line)
own_first line lines is = rw is refl

own_passed : (line : List ℕ) (lines : List (List ℕ)) → is_blank line ≡ true → own_indent (line ∷ lines) ≡ own_indent lines
own_passed line lines is = rw is refl

-- a blank line and then others
joined_blank : (own : Option ℕ) (line : List ℕ) (lines : List (List ℕ)) → is_blank line ≡ true → all_blank lines ≡ false → joined own (line ∷ lines) ≡ 10 ∷ joined own lines
joined_blank own line lines blank more = rw (more, blank) refl

full_text : (lines : List (List ℕ)) (n : ℕ) (text feeds : List ℕ) → (adds lines (a_held (Some n) text feeds)).text ≡ (if all_blank lines then text else text ++ (feeds ++ joined (Some n) lines))
full_text [] n text feeds = refl
full_text (line ∷ lines) n text feeds =
    at (is_blank line) (all_blank lines) refl refl (full_text lines n text (feeds ++ 10 ∷ [])) (full_text lines n (text ++ (feeds ++ drop n line)) (10 ∷ []))
  where
    at : (b a : Bool) → is_blank line ≡ b → all_blank lines ≡ a
        → (adds lines (a_held (Some n) text (feeds ++ 10 ∷ []))).text ≡ (if all_blank lines then text else text ++ ((feeds ++ 10 ∷ []) ++ joined (Some n) lines))
        → (adds lines (a_held (Some n) (text ++ (feeds ++ drop n line)) (10 ∷ []))).text ≡ (if all_blank lines then text ++ (feeds ++ drop n line) else (text ++ (feeds ++ drop n line)) ++ (10 ∷ joined (Some n) lines))
        → (adds lines (add line (a_held (Some n) text feeds))).text ≡ (if is_blank line && all_blank lines then text else text ++ (feeds ++ joined (Some n) (line ∷ lines)))
    at true true is all one two = ap (λ (h : Held). (adds lines h).text) (add_at true line (Some n) text feeds is) ∙ one ∙ rw (is, all) refl
    at true false is all one two =
        ap (λ (h : Held). (adds lines h).text) (add_at true line (Some n) text feeds is) ∙ one ∙ rw (is, all) (ap (λ (t : List ℕ). text ++ t) (append_assoc feeds (10 ∷ []) (joined (Some n) lines)))
    at false true is all one two = ap (λ (h : Held). (adds lines h).text) (add_at false line (Some n) text feeds is) ∙ two ∙ rw (is, all) refl
    at false false is all one two =
        ap (λ (h : Held). (adds lines h).text) (add_at false line (Some n) text feeds is) ∙ two
        ∙ rw (is, all) (append_assoc text (feeds ++ drop n line) (10 ∷ joined (Some n) lines) ∙ ap (λ (t : List ℕ). text ++ t) (append_assoc feeds (drop n line) (10 ∷ joined (Some n) lines)))

none_text : (keeps : Bool) (lines : List (List ℕ)) (feeds : List ℕ) → held_text keeps (adds lines (a_held None [] feeds)) ≡ (if all_blank lines then [] else (feeds ++ joined (own_indent lines) lines) ++ feed keeps)
none_text keeps [] feeds = refl
none_text keeps (line ∷ lines) feeds = at (is_blank line) (all_blank lines) refl refl (none_text keeps lines (feeds ++ 10 ∷ [])) (full_text lines (indent line) (feeds ++ drop (indent line) line) (10 ∷ []))
  where
    full : Held
    full = adds lines (a_held (Some (indent line)) (feeds ++ drop (indent line) line) (10 ∷ []))

    at : (b a : Bool) → is_blank line ≡ b → all_blank lines ≡ a
        → held_text keeps (adds lines (a_held None [] (feeds ++ 10 ∷ []))) ≡ (if all_blank lines then [] else ((feeds ++ 10 ∷ []) ++ joined (own_indent lines) lines) ++ feed keeps)
        → (adds lines (a_held (Some (indent line)) (feeds ++ drop (indent line) line) (10 ∷ []))).text ≡ (if all_blank lines then feeds ++ drop (indent line) line else (feeds ++ drop (indent line) line) ++ (10 ∷ joined (Some (indent line)) lines))
        → held_text keeps (adds lines (add line (a_held None [] feeds))) ≡ (if is_blank line && all_blank lines then [] else (feeds ++ joined (own_indent (line ∷ lines)) (line ∷ lines)) ++ feed keeps)
    at true true is all one two = ap (λ (h : Held). held_text keeps (adds lines h)) (add_at true line None [] feeds is) ∙ one ∙ rw (is, all) refl
    at true false is all one two =
        ap (λ (h : Held). held_text keeps (adds lines h)) (add_at true line None [] feeds is) ∙ one ∙ first
        ∙ ap (λ (o : Option ℕ). if is_blank line && all_blank lines then [] else (feeds ++ joined o (line ∷ lines)) ++ feed keeps) (sym (own_passed line lines is))
      where
        first : (if all_blank lines then [] else ((feeds ++ 10 ∷ []) ++ joined (own_indent lines) lines) ++ feed keeps)
            ≡ (if is_blank line && all_blank lines then [] else (feeds ++ joined (own_indent lines) (line ∷ lines)) ++ feed keeps)
        first = rw (is, all) (ap (λ (t : List ℕ). t ++ feed keeps) (append_assoc feeds (10 ∷ []) (joined (own_indent lines) lines)))
    at false a is all one two =
        ap (λ (h : Held). held_text keeps (adds lines h)) (add_at false line None [] feeds is)
        ∙ ap₂ (λ (o : Option ℕ) (t : List ℕ). if is_none o then [] else t ++ feed keeps) (adds_indent_some lines (indent line) (feeds ++ drop (indent line) line) (10 ∷ [])) two
        ∙ ends a all
      where
        ends : (a : Bool) → all_blank lines ≡ a → (if all_blank lines then feeds ++ drop (indent line) line else (feeds ++ drop (indent line) line) ++ (10 ∷ joined (Some (indent line)) lines)) ++ feed keeps
            ≡ (if is_blank line && all_blank lines then [] else (feeds ++ joined (own_indent (line ∷ lines)) (line ∷ lines)) ++ feed keeps)
        ends true all = rw (is, all) refl
        ends false all = first ∙ ap (λ (o : Option ℕ). if is_blank line && all_blank lines then [] else (feeds ++ joined o (line ∷ lines)) ++ feed keeps) (sym (own_first line lines is))
          where
            first : (if all_blank lines then feeds ++ drop (indent line) line else (feeds ++ drop (indent line) line) ++ (10 ∷ joined (Some (indent line)) lines)) ++ feed keeps
                ≡ (if is_blank line && all_blank lines then [] else (feeds ++ joined (Some (indent line)) (line ∷ lines)) ++ feed keeps)
            first = rw (is, all) (ap (λ (t : List ℕ). t ++ feed keeps) (append_assoc feeds (drop (indent line) line) (10 ∷ joined (Some (indent line)) lines)))

-- the text that was read is the text of the lines
pub literal_is : (keeps : Bool) (own : List (List ℕ)) → held_text keeps (held_of own) ≡ literal_text keeps own
literal_is keeps own = none_text keeps own []
