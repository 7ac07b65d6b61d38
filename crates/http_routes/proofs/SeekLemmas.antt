-- A router of patterns finds what their table says, whatever the order of its rows.
use Rattle.std.proofs.Common.{◌≡◌, ◌≢◌, ℕ, zero, suc, ◌-◌, ◌<◌, ◌≤◌, List, [], ◌∷◌, ◌++◌, length, drop, Option, Some, None, Bool, true, false, cond, refl, sym, ap, ◌∙◌, arith, ◌==◌, ltb, ◌&&◌, bytes_eq}
use Rattle.std.proofs.lemmas.Bool.Decides.{nat_tests}
use Rattle.std.proofs.lemmas.List.{append-nil}
use Rattle.matchit.specs.Rows.{RowsOf, param_token, catch_all_token}
use Rattle.matchit.specs.Seek.{own, step, or_else, seek, param_step, has_slash, segment, slash, longest_from, with_suffix, cuts, same_text}
use Rattle.org_requests.specs.Patterns.{Part, fixed, any, Table, joined, ends_here, behind_fixed, behind_any, route_of}

-- what the router keeps of a pattern
abbrev pub tokens : List Part → List ℕ
tokens [] = []
tokens (fixed text ∷ parts) = slash ∷ (text ++ tokens parts)
tokens (any ∷ parts) = slash ∷ (param_token ∷ tokens parts)

-- bytes other than the slash
abbrev pub IsPlain : List ℕ → Type 0
IsPlain [] = Unit {0}
IsPlain (b ∷ rest) = (b < 256) × (b ≢ 47) × IsPlain rest

-- a segment has such bytes, and one at least
abbrev pub IsName : List ℕ → Type 0
IsName [] = ⊥
IsName (b ∷ rest) = IsPlain (b ∷ rest)

abbrev pub AreNames : List (List ℕ) → Type 0
AreNames [] = Unit {0}
AreNames (s ∷ rest) = IsName s × AreNames rest

abbrev pub ArePlain : List Part → Type 0
ArePlain [] = Unit {0}
ArePlain (fixed text ∷ parts) = IsPlain text × ArePlain parts
ArePlain (any ∷ parts) = ArePlain parts

-- rows in the midst of a fixed part: what is left of its text, the parts behind it, and the key
abbrev Within : Type 0 → Type 0
Within K = List (List ℕ × List Part × K)

differs : (x y : ℕ) → x ≢ y → (x == y) ≡ false
differs x y h = grind (arith, nat_tests)

segment-plain : (s : List ℕ) → IsPlain s → segment s ≡ s
segment-plain [] h = refl
segment-plain (b ∷ s) h = rw (differs b 47 h.1) (ap (λ t. b ∷ t) (segment-plain s h.2))

segment-slash : (s p : List ℕ) → IsPlain s → segment (s ++ (slash ∷ p)) ≡ s ++ (slash ∷ [])
segment-slash [] p h = refl
segment-slash (b ∷ s) p h = rw (differs b 47 h.1) (ap (λ t. b ∷ t) (segment-slash s p h.2))

has_slash-plain : (s : List ℕ) → IsPlain s → has_slash s ≡ false
has_slash-plain [] h = refl
has_slash-plain (b ∷ s) h = rw (differs b 47 h.1) (has_slash-plain s h.2)

has_slash-slash : (s p : List ℕ) → IsPlain s → has_slash (s ++ (slash ∷ p)) ≡ true
has_slash-slash [] p h = refl
has_slash-slash (b ∷ s) p h = rw (differs b 47 h.1) (has_slash-slash s p h.2)

plain-drop : (n : ℕ) (s : List ℕ) → IsPlain s → IsPlain (drop n s)
plain-drop zero s h = h
plain-drop (suc n) [] h = tt
plain-drop (suc n) (b ∷ s) h = plain-drop n s h.2

not_slash : (s : List ℕ) → IsPlain s → same_text (slash ∷ []) s ≡ false
not_slash [] h = refl
not_slash (b ∷ s) h = rw (differs 47 b (λ e. h.1 (sym e))) refl

and_false : (v : Bool) → (v && false) ≡ false
and_false true = refl
and_false false = refl

cuts-plain : (s : List ℕ) → IsPlain s → cuts s (slash ∷ []) ≡ false
cuts-plain s h = rw (not_slash (drop (length s - 1) s) (plain-drop (length s - 1) s h)) (and_false (ltb 1 (length s)))

drop_past : (s t : List ℕ) → drop (length s) (s ++ t) ≡ t
drop_past [] t = refl
drop_past (b ∷ s) t = drop_past s t

length_more : (s : List ℕ) (b : ℕ) → length (s ++ (b ∷ [])) ≡ suc (length s)
length_more [] b = refl
length_more (c ∷ s) b = ap suc (length_more s b)

cuts-slash : (b : ℕ) (s : List ℕ) → cuts ((b ∷ s) ++ (slash ∷ [])) (slash ∷ []) ≡ true
cuts-slash b s =
    let less : ltb 1 (suc (suc (length s))) ≡ true = grind (arith, nat_tests) in
    let one : suc (suc (length s)) - 1 ≡ suc (length s) = omega arith in
    rw (length_more s slash, less, one, drop_past s (slash ∷ [])) refl

module _ {K : Type 0} where
  abbrev pub rows_of : Table K → RowsOf K
  rows_of [] = []
  rows_of ((parts, key) ∷ rest) = (tokens parts, key) ∷ rows_of rest

  abbrev pub IsTable : Table K → Type 0
  IsTable [] = Unit {0}
  IsTable ((parts, key) ∷ rest) = ArePlain parts × IsTable rest

  -- the rows behind a slash
  abbrev opened : Table K → RowsOf K
  opened [] = []
  opened (([], key) ∷ rest) = opened rest
  opened ((fixed text ∷ parts, key) ∷ rest) = (text ++ tokens parts, key) ∷ opened rest
  opened ((any ∷ parts, key) ∷ rest) = (param_token ∷ tokens parts, key) ∷ opened rest

  abbrev within : Table K → Within K
  within [] = []
  within (([], key) ∷ rest) = within rest
  within ((fixed text ∷ parts, key) ∷ rest) = (text, parts, key) ∷ within rest
  within ((any ∷ parts, key) ∷ rest) = within rest

  abbrev within_rows : Within K → RowsOf K
  within_rows [] = []
  within_rows ((text, parts, key) ∷ rest) = (text ++ tokens parts, key) ∷ within_rows rest

  abbrev IsWithin : Within K → Type 0
  IsWithin [] = Unit {0}
  IsWithin ((text, parts, key) ∷ rest) = IsPlain text × IsWithin rest

  -- a byte further in the text, and all of these bytes
  abbrev cut : ℕ → Within K → Within K
  cut b [] = []
  cut b (([], parts, key) ∷ rest) = cut b rest
  cut b ((c ∷ text, parts, key) ∷ rest) = cond (c == b) ((text, parts, key) ∷ cut b rest) (cut b rest)

  abbrev cuts_all : List ℕ → Within K → Within K
  cuts_all [] rows = rows
  cuts_all (b ∷ s) rows = cuts_all s (cut b rows)

  -- the rows whose text is at its end
  abbrev ended : Within K → Table K
  ended [] = []
  ended (([], parts, key) ∷ rest) = (parts, key) ∷ ended rest
  ended ((c ∷ text, parts, key) ∷ rest) = ended rest

  -- the rows whose text is this
  abbrev picked : List ℕ → Within K → Table K
  picked s [] = []
  picked s ((text, parts, key) ∷ rest) = cond (bytes_eq text s) ((parts, key) ∷ picked s rest) (picked s rest)

  or_none : (a : Option K) → or_else a None ≡ a
  or_none None = refl
  or_none (Some k) = refl

  param_none : (p : List ℕ) → (param_step {K = K} [] p).1 ≡ []
  unfolding param_step
  param_none p =
      elim (has_slash p) as (λ v. (cond {A = ℕ × RowsOf K} v (0, []) (length p, [])).1 ≡ []) [
        | true ↦ refl
        | false ↦ refl
      ]

  seek_none : (n : ℕ) (p : List ℕ) → seek {K = K} n [] p ≡ None
  unfolding seek
  seek_none n [] = refl
  seek_none (suc n) (b ∷ p) = seek_none n p
  seek_none zero (b ∷ p) = simp (seek_none 0 p, param_none (b ∷ p), seek_none (((param_step {K = K} [] (b ∷ p)).0) - 1) p)

  -- where no row has a parameter next, the byte decides
  by_byte : (rows : RowsOf K) (b : ℕ) (p : List ℕ) → step param_token rows ≡ [] → step catch_all_token rows ≡ [] → seek 0 rows (b ∷ p) ≡ seek 0 (step b rows) p
  unfolding seek
  by_byte rows b p e f = simp (e, f, param_none (b ∷ p), seek_none ((param_step {K = K} [] (b ∷ p)).0 - 1) p, or_none)

  skipped : (rows : RowsOf K) (s p : List ℕ) → seek (length s) rows (s ++ p) ≡ seek 0 rows p
  unfolding seek
  skipped rows [] p = refl
  skipped rows (b ∷ s) p = skipped rows s p

  -- a token that no text and no slash begins with is passed over
  passes_over : (x : ℕ) (text : List ℕ) (parts : List Part) (key : K) (rest : RowsOf K) → 256 ≤ x → IsPlain text → step x ((text ++ tokens parts, key) ∷ rest) ≡ step x rest
  passes_over x [] [] key rest l h = refl
  passes_over x [] (fixed t ∷ parts) key rest l h = rw (differs 47 x (λ e. omega arith)) refl
  passes_over x [] (any ∷ parts) key rest l h = rw (differs 47 x (λ e. omega arith)) refl
  passes_over x (c ∷ text) parts key rest l h = let below = h.0 in rw (differs c x (λ e. omega arith)) refl

  -- a byte other than the slash passes over what begins with one
  passes_slash : (b : ℕ) (parts : List Part) (key : K) (rest : RowsOf K) → b ≢ 47 → step b ((tokens parts, key) ∷ rest) ≡ step b rest
  passes_slash b [] key rest n = refl
  passes_slash b (fixed t ∷ parts) key rest n = rw (differs 47 b (λ e. n (sym e))) refl
  passes_slash b (any ∷ parts) key rest n = rw (differs 47 b (λ e. n (sym e))) refl

  step-rows_of : (x : ℕ) (table : Table K) → 256 ≤ x → step x (rows_of table) ≡ []
  step-rows_of x [] l = refl
  step-rows_of x ((parts, key) ∷ rest) l = passes_over x [] parts key (rows_of rest) l tt ∙ step-rows_of x rest l

  step-opened : (table : Table K) → step slash (rows_of table) ≡ opened table
  step-opened [] = refl
  step-opened (([], key) ∷ rest) = step-opened rest
  step-opened ((fixed text ∷ parts, key) ∷ rest) = ap (λ r. (text ++ tokens parts, key) ∷ r) (step-opened rest)
  step-opened ((any ∷ parts, key) ∷ rest) = ap (λ r. (param_token ∷ tokens parts, key) ∷ r) (step-opened rest)

  param-opened : (table : Table K) → IsTable table → step param_token (opened table) ≡ rows_of (behind_any table)
  param-opened [] h = refl
  param-opened (([], key) ∷ rest) h = param-opened rest h.1
  param-opened ((fixed text ∷ parts, key) ∷ rest) h = passes_over param_token text parts key (opened rest) (omega arith) h.0.0 ∙ param-opened rest h.1
  param-opened ((any ∷ parts, key) ∷ rest) h = ap (λ r. (tokens parts, key) ∷ r) (param-opened rest h.1)

  catch-opened : (table : Table K) → IsTable table → step catch_all_token (opened table) ≡ []
  catch-opened [] h = refl
  catch-opened (([], key) ∷ rest) h = catch-opened rest h.1
  catch-opened ((fixed text ∷ parts, key) ∷ rest) h = passes_over catch_all_token text parts key (opened rest) (omega arith) h.0.0 ∙ catch-opened rest h.1
  catch-opened ((any ∷ parts, key) ∷ rest) h = catch-opened rest h.1

  same_first : (b : ℕ) (t : List ℕ) (key : K) (r q : RowsOf K) → step b r ≡ step b q → step b ((t, key) ∷ r) ≡ step b ((t, key) ∷ q)
  same_first b [] key r q e = e
  same_first b (x ∷ t) key r q e = ap (λ z. cond (x == b) ((t, key) ∷ z) z) e

  byte-opened : (b : ℕ) (table : Table K) → b < 256 → step b (opened table) ≡ step b (within_rows (within table))
  byte-opened b [] l = refl
  byte-opened b (([], key) ∷ rest) l = byte-opened b rest l
  byte-opened b ((fixed text ∷ parts, key) ∷ rest) l = same_first b (text ++ tokens parts) key (opened rest) (within_rows (within rest)) (byte-opened b rest l)
  byte-opened b ((any ∷ parts, key) ∷ rest) l = rw (differs param_token b (λ e. omega arith)) (byte-opened b rest l)

  step-within : (b : ℕ) (rows : Within K) → b ≢ 47 → step b (within_rows rows) ≡ within_rows (cut b rows)
  step-within b [] n = refl
  step-within b (([], parts, key) ∷ rest) n = passes_slash b parts key (within_rows rest) n ∙ step-within b rest n
  step-within b ((c ∷ text, parts, key) ∷ rest) n = by (c == b) (step-within b rest n)
    where
      by : (v : Bool) → step b (within_rows rest) ≡ within_rows (cut b rest)
          → cond v ((text ++ tokens parts, key) ∷ step b (within_rows rest)) (step b (within_rows rest)) ≡ within_rows (cond v ((text, parts, key) ∷ cut b rest) (cut b rest))
      by true e = ap (λ r. (text ++ tokens parts, key) ∷ r) e
      by false e = e

  far-within : (x : ℕ) (rows : Within K) → 256 ≤ x → IsWithin rows → step x (within_rows rows) ≡ []
  far-within x [] l h = refl
  far-within x ((text, parts, key) ∷ rest) l h = passes_over x text parts key (within_rows rest) l h.0 ∙ far-within x rest l h.1

  cut-IsWithin : (b : ℕ) (rows : Within K) → IsWithin rows → IsWithin (cut b rows)
  cut-IsWithin b [] h = tt
  cut-IsWithin b (([], parts, key) ∷ rest) h = cut-IsWithin b rest h.1
  cut-IsWithin b ((c ∷ text, parts, key) ∷ rest) h =
      elim (c == b) as (λ v. IsWithin (cond v ((text, parts, key) ∷ cut b rest) (cut b rest))) [
        | true ↦ (h.0.2, cut-IsWithin b rest h.1)
        | false ↦ cut-IsWithin b rest h.1
      ]

  cuts-IsWithin : (s : List ℕ) (rows : Within K) → IsWithin rows → IsWithin (cuts_all s rows)
  cuts-IsWithin [] rows h = h
  cuts-IsWithin (b ∷ s) rows h = cuts-IsWithin s (cut b rows) (cut-IsWithin b rows h)

  within-IsWithin : (table : Table K) → IsTable table → IsWithin (within table)
  within-IsWithin [] h = tt
  within-IsWithin (([], key) ∷ rest) h = within-IsWithin rest h.1
  within-IsWithin ((fixed text ∷ parts, key) ∷ rest) h = (h.0.0, within-IsWithin rest h.1)
  within-IsWithin ((any ∷ parts, key) ∷ rest) h = within-IsWithin rest h.1

  -- byte by byte through a text
  through : (s : List ℕ) (rows : Within K) (p : List ℕ) → IsPlain s → IsWithin rows → seek 0 (within_rows rows) (s ++ p) ≡ seek 0 (within_rows (cuts_all s rows)) p
  through [] rows p h w = refl
  through (b ∷ s) rows p h w =
      by_byte (within_rows rows) b (s ++ p) (far-within param_token rows (omega arith) w) (far-within catch_all_token rows (omega arith) w)
      ∙ ap (λ r. seek 0 r (s ++ p)) (step-within b rows h.1)
      ∙ through s (cut b rows) p h.2 (cut-IsWithin b rows w)

  -- which is the whole text
  picked-cut : (b : ℕ) (s : List ℕ) (rows : Within K) → picked s (cut b rows) ≡ picked (b ∷ s) rows
  picked-cut b s [] = refl
  picked-cut b s (([], parts, key) ∷ rest) = picked-cut b s rest
  picked-cut b s ((c ∷ text, parts, key) ∷ rest) = by (c == b) (picked-cut b s rest)
    where
      by : (v : Bool) → picked s (cut b rest) ≡ picked (b ∷ s) rest
          → picked s (cond v ((text, parts, key) ∷ cut b rest) (cut b rest)) ≡ cond (v && bytes_eq text s) ((parts, key) ∷ picked (b ∷ s) rest) (picked (b ∷ s) rest)
      by true e = ap (λ r. cond (bytes_eq text s) ((parts, key) ∷ r) r) e
      by false e = e

  ended-picked : (rows : Within K) → ended rows ≡ picked [] rows
  ended-picked [] = refl
  ended-picked (([], parts, key) ∷ rest) = ap (λ r. (parts, key) ∷ r) (ended-picked rest)
  ended-picked ((c ∷ text, parts, key) ∷ rest) = ended-picked rest

  ended-cuts : (s : List ℕ) (rows : Within K) → ended (cuts_all s rows) ≡ picked s rows
  ended-cuts [] rows = ended-picked rows
  ended-cuts (b ∷ s) rows = ended-cuts s (cut b rows) ∙ picked-cut b s rows

  picked-within : (s : List ℕ) (table : Table K) → picked s (within table) ≡ behind_fixed s table
  picked-within s [] = refl
  picked-within s (([], key) ∷ rest) = picked-within s rest
  picked-within s ((fixed text ∷ parts, key) ∷ rest) = ap (λ r. cond (bytes_eq text s) ((parts, key) ∷ r) r) (picked-within s rest)
  picked-within s ((any ∷ parts, key) ∷ rest) = picked-within s rest

  own-ended : (rows : Within K) → own (within_rows rows) ≡ own (rows_of (ended rows))
  own-ended [] = refl
  own-ended (([], [], key) ∷ rest) = refl
  own-ended (([], fixed t ∷ parts, key) ∷ rest) = own-ended rest
  own-ended (([], any ∷ parts, key) ∷ rest) = own-ended rest
  own-ended ((c ∷ text, parts, key) ∷ rest) = own-ended rest

  slash-ended : (rows : Within K) → IsWithin rows → step slash (within_rows rows) ≡ step slash (rows_of (ended rows))
  slash-ended [] h = refl
  slash-ended (([], parts, key) ∷ rest) h = same_first slash (tokens parts) key (within_rows rest) (rows_of (ended rest)) (slash-ended rest h.1)
  slash-ended ((c ∷ text, parts, key) ∷ rest) h = rw (differs c 47 h.0.1) (slash-ended rest h.1)

  -- at the end of a segment only the rows whose text is at its end go on
  at_end : (rows : Within K) (ss : List (List ℕ)) → IsWithin rows → seek 0 (within_rows rows) (joined ss) ≡ seek 0 (rows_of (ended rows)) (joined ss)
  unfolding seek
  at_end rows [] h = own-ended rows
  at_end rows (s ∷ ss) h =
      by_byte (within_rows rows) slash (s ++ joined ss) (far-within param_token rows (omega arith) h) (far-within catch_all_token rows (omega arith) h)
      ∙ ap (λ r. seek 0 r (s ++ joined ss)) (slash-ended rows h)
      ∙ sym (by_byte (rows_of (ended rows)) slash (s ++ joined ss) (step-rows_of param_token (ended rows) (omega arith)) (step-rows_of catch_all_token (ended rows) (omega arith)))

  -- some pattern goes on
  abbrev has_more : Table K → Bool
  has_more [] = false
  has_more (([], key) ∷ rest) = has_more rest
  has_more ((part ∷ parts, key) ∷ rest) = true

  -- the patterns that go on
  abbrev longer : Table K → Table K
  longer [] = []
  longer (([], key) ∷ rest) = longer rest
  longer ((part ∷ parts, key) ∷ rest) = (part ∷ parts, key) ∷ longer rest

  longest-slash : (seg : List ℕ) (table : Table K) → longest_from seg (slash ∷ []) (rows_of table) ≡ slash ∷ []
  longest-slash seg [] = refl
  longest-slash seg (([], key) ∷ rest) = longest-slash seg rest
  longest-slash seg ((fixed t ∷ parts, key) ∷ rest) = longest-slash seg rest
  longest-slash seg ((any ∷ parts, key) ∷ rest) = longest-slash seg rest

  longest-more : (seg : List ℕ) (table : Table K) → cuts seg (slash ∷ []) ≡ true → longest_from seg [] (rows_of table) ≡ cond (has_more table) (slash ∷ []) []
  longest-more seg [] e = refl
  longest-more seg (([], key) ∷ rest) e = longest-more seg rest e
  longest-more seg ((fixed t ∷ parts, key) ∷ rest) e = ap (λ v. longest_from seg (cond v (slash ∷ []) []) (rows_of rest)) e ∙ longest-slash seg rest
  longest-more seg ((any ∷ parts, key) ∷ rest) e = ap (λ v. longest_from seg (cond v (slash ∷ []) []) (rows_of rest)) e ∙ longest-slash seg rest

  longest-none : (seg : List ℕ) (table : Table K) → cuts seg (slash ∷ []) ≡ false → longest_from seg [] (rows_of table) ≡ []
  longest-none seg [] e = refl
  longest-none seg (([], key) ∷ rest) e = longest-none seg rest e
  longest-none seg ((fixed t ∷ parts, key) ∷ rest) e = ap (λ v. longest_from seg (cond v (slash ∷ []) []) (rows_of rest)) e ∙ longest-none seg rest e
  longest-none seg ((any ∷ parts, key) ∷ rest) e = ap (λ v. longest_from seg (cond v (slash ∷ []) []) (rows_of rest)) e ∙ longest-none seg rest e

  suffix-longer : (table : Table K) → with_suffix (slash ∷ []) (rows_of table) ≡ rows_of (longer table)
  suffix-longer [] = refl
  suffix-longer (([], key) ∷ rest) = suffix-longer rest
  suffix-longer ((fixed t ∷ parts, key) ∷ rest) = ap (λ r. (tokens (fixed t ∷ parts), key) ∷ r) (suffix-longer rest)
  suffix-longer ((any ∷ parts, key) ∷ rest) = ap (λ r. (tokens (any ∷ parts), key) ∷ r) (suffix-longer rest)

  step-longer : (table : Table K) → step slash (rows_of (longer table)) ≡ step slash (rows_of table)
  step-longer [] = refl
  step-longer (([], key) ∷ rest) = step-longer rest
  step-longer ((fixed t ∷ parts, key) ∷ rest) = ap (λ r. (t ++ tokens parts, key) ∷ r) (step-longer rest)
  step-longer ((any ∷ parts, key) ∷ rest) = ap (λ r. (param_token ∷ tokens parts, key) ∷ r) (step-longer rest)

  step-no_more : (table : Table K) → has_more table ≡ false → step slash (rows_of table) ≡ []
  step-no_more [] e = refl
  step-no_more (([], key) ∷ rest) e = step-no_more rest e
  step-no_more ((part ∷ parts, key) ∷ rest) e = cc

  -- a parameter takes the whole segment, at the end of the path and before a slash
  param-end : (table : Table K) (s : List ℕ) → IsPlain s → param_step (rows_of table) s ≡ (length s, rows_of table)
  unfolding param_step
  param-end table s h = rw (segment-plain s h, longest-none s table (cuts-plain s h), has_slash-plain s h) refl

  param-more : (table : Table K) (b : ℕ) (s p : List ℕ) → IsPlain (b ∷ s) → has_more table ≡ true → param_step (rows_of table) ((b ∷ s) ++ (slash ∷ p)) ≡ (suc (length s), rows_of (longer table))
  unfolding param_step
  param-more table b s p h e =
      let one : suc (suc (length s)) - 1 ≡ suc (length s) = omega arith in
      rw (segment-slash (b ∷ s) p h, longest-more ((b ∷ s) ++ (slash ∷ [])) table (cuts-slash b s), e, length_more s slash, one, suffix-longer table) refl

  param-no_more : (table : Table K) (b : ℕ) (s p : List ℕ) → IsPlain (b ∷ s) → has_more table ≡ false → param_step (rows_of table) ((b ∷ s) ++ (slash ∷ p)) ≡ (0, [])
  unfolding param_step
  param-no_more table b s p h e =
      rw (segment-slash (b ∷ s) p h, longest-more ((b ∷ s) ++ (slash ∷ [])) table (cuts-slash b s), e, has_slash-slash (b ∷ s) p h) refl

  skipped_all : (rows : RowsOf K) (s : List ℕ) → seek (length s) rows s ≡ own rows
  unfolding seek
  skipped_all rows [] = refl
  skipped_all rows (b ∷ s) = skipped_all rows s

  by_slash : (table : Table K) (p : List ℕ) → seek 0 (rows_of table) (slash ∷ p) ≡ seek 0 (step slash (rows_of table)) p
  by_slash table p = by_byte (rows_of table) slash p (step-rows_of param_token table (omega arith)) (step-rows_of catch_all_token table (omega arith))

  abbrev after : ℕ × RowsOf K → List ℕ → Option K
  after found path = seek (found.0 - 1) found.1 path

  after_any : (table : Table K) (b : ℕ) (s : List ℕ) (ss : List (List ℕ)) → IsPlain (b ∷ s) → after (param_step (rows_of table) ((b ∷ s) ++ joined ss)) (s ++ joined ss) ≡ seek 0 (rows_of table) (joined ss)
  unfolding seek
  after_any table b s [] h =
      let one : suc (length s) - 1 ≡ length s = omega arith in
      rw (append-nil s, param-end table (b ∷ s) h, one) (skipped_all (rows_of table) s)
  after_any table b s (t ∷ ss) h = by (has_more table) refl
    where
      by : (v : Bool) → has_more table ≡ v → after (param_step (rows_of table) ((b ∷ s) ++ (slash ∷ (t ++ joined ss)))) (s ++ (slash ∷ (t ++ joined ss))) ≡ seek 0 (rows_of table) (slash ∷ (t ++ joined ss))
      by true e =
          let one : suc (length s) - 1 ≡ length s = omega arith in
          rw (param-more table b s (t ++ joined ss) h e, one)
          (skipped (rows_of (longer table)) s (slash ∷ (t ++ joined ss))
          ∙ by_slash (longer table) (t ++ joined ss)
          ∙ ap (λ r. seek 0 r (t ++ joined ss)) (step-longer table)
          ∙ sym (by_slash table (t ++ joined ss)))
      by false e =
          rw (param-no_more table b s (t ++ joined ss) h e)
          (seek_none (0 - 1) (s ++ (slash ∷ (t ++ joined ss)))
          ∙ sym (by_slash table (t ++ joined ss) ∙ ap (λ r. seek 0 r (t ++ joined ss)) (step-no_more table e) ∙ seek_none 0 (t ++ joined ss)))

  after_fixed : (table : Table K) (b : ℕ) (s : List ℕ) (ss : List (List ℕ)) → IsTable table → IsPlain (b ∷ s) → seek 0 (step b (opened table)) (s ++ joined ss) ≡ seek 0 (rows_of (behind_fixed (b ∷ s) table)) (joined ss)
  after_fixed table b s ss t h =
      let w : IsWithin (cut b (within table)) = cut-IsWithin b (within table) (within-IsWithin table t) in
      ap (λ r. seek 0 r (s ++ joined ss)) (byte-opened b table h.0 ∙ step-within b (within table) h.1)
      ∙ through s (cut b (within table)) (joined ss) h.2 w
      ∙ at_end (cuts_all s (cut b (within table))) ss (cuts-IsWithin s (cut b (within table)) w)
      ∙ ap (λ t. seek 0 (rows_of t) (joined ss)) (ended-cuts (b ∷ s) (within table) ∙ picked-within (b ∷ s) table)

  fixed-IsTable : (s : List ℕ) (table : Table K) → IsTable table → IsTable (behind_fixed s table)
  fixed-IsTable s [] h = tt
  fixed-IsTable s (([], key) ∷ rest) h = fixed-IsTable s rest h.1
  fixed-IsTable s ((fixed text ∷ parts, key) ∷ rest) h =
      elim (bytes_eq text s) as (λ v. IsTable (cond v ((parts, key) ∷ behind_fixed s rest) (behind_fixed s rest))) [
        | true ↦ (h.0.1, fixed-IsTable s rest h.1)
        | false ↦ fixed-IsTable s rest h.1
      ]
  fixed-IsTable s ((any ∷ parts, key) ∷ rest) h = fixed-IsTable s rest h.1

  any-IsTable : (table : Table K) → IsTable table → IsTable (behind_any table)
  any-IsTable [] h = tt
  any-IsTable (([], key) ∷ rest) h = any-IsTable rest h.1
  any-IsTable ((fixed text ∷ parts, key) ∷ rest) h = any-IsTable rest h.1
  any-IsTable ((any ∷ parts, key) ∷ rest) h = (h.0, any-IsTable rest h.1)

  own-table : (table : Table K) → own (rows_of table) ≡ ends_here table
  own-table [] = refl
  own-table (([], key) ∷ rest) = refl
  own-table ((fixed text ∷ parts, key) ∷ rest) = own-table rest
  own-table ((any ∷ parts, key) ∷ rest) = own-table rest

  -- the router's walk over the rows finds what the table says of the segments
  pub walks : (ss : List (List ℕ)) → AreNames ss → (table : Table K) → IsTable table → seek 0 (rows_of table) (joined ss) ≡ route_of table ss
  unfolding seek route_of
  walks [] n table h = own-table table
  walks ([] ∷ ss) n table h = absurd n.0
  walks ((b ∷ s) ∷ ss) n table h =
      let first = after_fixed table b s ss h n.0 ∙ walks ss n.1 (behind_fixed (b ∷ s) table) (fixed-IsTable (b ∷ s) table h) in
      let second = after_any (behind_any table) b s ss n.0 ∙ walks ss n.1 (behind_any table) (any-IsTable table h) in
      by_slash table ((b ∷ s) ++ joined ss)
      ∙ ap (λ r. seek 0 r ((b ∷ s) ++ joined ss)) (step-opened table)
      ∙ rw (param-opened table h, catch-opened table h, first, second, or_none (route_of (behind_any table) ss)) refl
