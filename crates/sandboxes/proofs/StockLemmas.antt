-- Files that are marked, kept and dropped, key by key.
use Rattle.std.proofs.Common.{◌≡◌, ◌||◌, Bool, true, false, cond, not, ℕ, ◌+◌, ◌<◌, List, [], ◌∷◌, map, length, take, get_or, Option, None, Some, option_map, bytes_eq, sym, ap, refl, ◌∙◌}
use Rattle.std.specs.Ordering.{eq_by_cmp}
use Rattle.std.specs.Cmp.Lexicographic.{nat_list_cmp_total, nat_list_eq_equiv, bytes_decides}
use Rattle.std.specs.declared.cmp.Ordering.TheVariants.{Equal}
use Rattle.std.specs.FinMap as finite
use Rattle.std.specs.Map.{lookup}
use Rattle.std.proofs.lemmas.List.Folds.{list_any_more}
use Rattle.doc_tree.specs.Text.{text_cmp}
use Rattle.sandboxes.specs.declared.stored.Stored.{Stored}
use Rattle.sandboxes.specs.Checksums.{checksum_of}
use Rattle.sandboxes.specs.Sums.{Sums, lists}
use Rattle.sandboxes.specs.Sandboxes.{Stock, AreNamed, marked, with_committed, without}
use Rattle.sandboxes.proofs.SearchLemmas.{text_cmp_ties}
use Rattle.sandboxes.proofs.MapLemmas.{tied, get-seen, same_seen, seen}

-- a file with its mark, where these are committed
abbrev pub mark : Sums → List ℕ → Stored → Stored
mark sums q stored = record { file = stored.file; committed = stored.committed || lists sums q }

-- a file that is committed where it was or where this holds, and one that is committed
abbrev pub by_mark : Bool → Stored → Stored
by_mark more stored = record { file = stored.file; committed = stored.committed || more }

abbrev with_mark : Stored → Bool → Stored
with_mark stored is = record { file = stored.file; committed = is }

abbrev pub done_with : Stored → Stored
done_with stored = record { file = stored.file; committed = true }

-- the marked entries are found as the entries are
find-marked : (sums : Sums) (q : List ℕ) (es : List (List ℕ × Stored)) → finite.find text_cmp q (map (marked sums) es) ≡ option_map (mark sums q) (finite.find text_cmp q es)
find-marked sums q [] = refl
find-marked sums q (e ∷ es) =
    elim (eq_by_cmp text_cmp q e.0) as (λ b. eq_by_cmp text_cmp q e.0 ≡ b → cond b (Some (marked sums e).1) (finite.find text_cmp q (map (marked sums) es)) ≡ option_map (mark sums q) (cond b (Some e.1) (finite.find text_cmp q es))) [
      | true ↦ λ is. ap (λ k. Some (mark sums k e.1)) (sym ((bytes_decides q e.0).0 (sym (tied q e.0) ∙ is)))
      | false ↦ λ is. find-marked sums q es
    ] refl

-- each file is there with its mark
pub get-with_committed : (sums : Sums) (files : Stock) (q : List ℕ) → finite.get (with_committed sums files) q ≡ option_map (mark sums q) (finite.get files q)
get-with_committed sums files q =
    finite.get-from_entries nat_list_cmp_total (map (marked sums) (finite.entries files)) q
    ∙ find-marked sums q (finite.entries files)
    ∙ ap (option_map (mark sums q)) (sym (finite.get-entries files q))

-- keys that tie are listed alike
alike : (sums : Sums) (q x : List ℕ) → text_cmp q x ≡ Equal → not (lists sums x) ≡ not (lists sums q)
alike sums q x ties = ap (λ k. not (lists sums k)) (sym (text_cmp_ties q x ties))

turned : {A : Type 0} (b : Bool) (x y : A) → cond (not b) x y ≡ cond b y x
turned true x y = refl
turned false x y = refl

-- the files that are dropped are gone, and no other
pub get-without : (sums : Sums) (files : Stock) (q : List ℕ) → finite.get (without sums files) q ≡ cond (lists sums q) None (finite.get files q)
get-without sums files q =
    finite.get-retain_keys files (λ sum. not (lists sums sum)) q (λ x ties. alike sums q x ties) ∙ turned (lists sums q) (finite.get files q) None

-- names after each of these
named_mark : (sums : Sums) (q : List ℕ) (found : Option Stored) → ((x : Stored) → found ≡ Some x → checksum_of x.file ≡ q)
    → (x : Stored) → option_map (mark sums q) found ≡ Some x → checksum_of x.file ≡ q
named_mark sums q None named x is = absurd (cc)
named_mark sums q (Some stored) named x is =
    let same : mark sums q stored ≡ x = cc in
    ap (λ (s : Stored). checksum_of s.file) (sym same) ∙ named stored refl

pub AreNamed-committed : (sums : Sums) (files : Stock) → AreNamed files → AreNamed (with_committed sums files)
AreNamed-committed sums files named q x is = named_mark sums q (finite.get files q) (named q) x (sym (get-with_committed sums files q) ∙ is)

named_kept : (b : Bool) (q : List ℕ) (found : Option Stored) → ((x : Stored) → found ≡ Some x → checksum_of x.file ≡ q)
    → (x : Stored) → cond b None found ≡ Some x → checksum_of x.file ≡ q
named_kept true q found named x is = absurd (cc)
named_kept false q found named x is = named x is

pub AreNamed-without : (sums : Sums) (files : Stock) → AreNamed files → AreNamed (without sums files)
AreNamed-without sums files named q x is = named_kept (lists sums q) q (finite.get files q) (named q) x (sym (get-without sums files q) ∙ is)

named_put : (b : Bool) (q : List ℕ) (stored : Stored) (found : Option Stored) → (b ≡ true → checksum_of stored.file ≡ q) → ((x : Stored) → found ≡ Some x → checksum_of x.file ≡ q)
    → (x : Stored) → cond b (Some stored) found ≡ Some x → checksum_of x.file ≡ q
named_put true q stored found own named x is =
    let same : stored ≡ x = cc in
    ap (λ (s : Stored). checksum_of s.file) (sym same) ∙ own refl
named_put false q stored found own named x is = named x is

pub AreNamed-insert : (files : Stock) (sum : List ℕ) (stored : Stored) → checksum_of stored.file ≡ sum → AreNamed files → AreNamed (finite.insert files sum stored)
AreNamed-insert files sum stored own named q x is =
    named_put (eq_by_cmp text_cmp q sum) q stored (finite.get files q) (λ ties. own ∙ sym ((bytes_decides q sum).0 (sym (tied q sum) ∙ ties))) (named q) x
    (sym (finite.get-insert nat_list_cmp_total files sum stored q) ∙ is)

pub AreNamed-empty : AreNamed finite.empty
AreNamed-empty q x is =
    let none = finite.get-empty {X = Stored} text_cmp q in
    absurd (cc)

-- one checksum more
pub lists-more : (sums : Sums) (i : ℕ) (sum q : List ℕ) → i < length sums → sum ≡ get_or sums i sum → lists (take (i + 1) sums) q ≡ (lists (take i sums) q || bytes_eq q sum)
lists-more sums i sum q within is =
    list_any_more (bytes_eq q) sums i sum within ∙ ap (λ s. lists (take i sums) q || bytes_eq q s) (sym is)

-- a function from checksums to files, as a map that is kept
abbrev pub Found : Type 0
Found = List ℕ → Option Stored

or_false : (b : Bool) → (b || false) ≡ b
or_false true = refl
or_false false = refl

or_true : (b : Bool) → (b || true) ≡ true
or_true true = refl
or_true false = refl

-- a file that is there is marked: at its checksum
marked_here : (done : Sums) (q : List ℕ) (stored : Stored) (more : Bool) (before : Option Stored) → more ≡ true → Some stored ≡ option_map (mark done q) before
    → Some (done_with stored) ≡ option_map (by_mark (lists done q || more)) before
marked_here done q stored more None is found = absurd (cc)
marked_here done q stored more (Some s) is found =
    let same : stored ≡ mark done q s = cc in
    ap (λ (x : Stored). Some (done_with x)) same
    ∙ ap (λ (b : Bool). Some (with_mark s b)) (sym (ap (λ m. s.committed || (lists done q || m)) is ∙ ap (λ b. s.committed || b) (or_true (lists done q)) ∙ or_true s.committed))

-- and elsewhere all stays
marked_other : (done : Sums) (q : List ℕ) (more : Bool) (before : Option Stored) → more ≡ false
    → option_map (mark done q) before ≡ option_map (by_mark (lists done q || more)) before
marked_other done q more None is = refl
marked_other done q more (Some s) is = ap (λ (b : Bool). Some (by_mark b s)) (sym (ap (λ m. lists done q || m) is ∙ or_false (lists done q)))

-- a file that isn't there isn't marked
marked_none : (done : Sums) (q : List ℕ) (more : Bool) (before : Option Stored) → option_map (mark done q) before ≡ None
    → None ≡ option_map (by_mark (lists done q || more)) before
marked_none done q more None none = refl
marked_none done q more (Some s) none = absurd (cc)

-- the mark by one checksum more
mark-more : (sums : Sums) (i : ℕ) (sum q : List ℕ) (before : Option Stored) → i < length sums → sum ≡ get_or sums i sum
    → option_map (by_mark (lists (take i sums) q || bytes_eq q sum)) before ≡ option_map (mark (take (i + 1) sums) q) before
mark-more sums i sum q before within is =
    ap (λ b. option_map (by_mark b) before) (sym (lists-more sums i sum q within is))

-- one file more is marked
pub marks-more : (old now next : Found) (sums : Sums) (i : ℕ) (sum : List ℕ) (stored : Stored) → i < length sums → sum ≡ get_or sums i sum
    → ((q : List ℕ) → now q ≡ option_map (mark (take i sums) q) (old q))
    → now sum ≡ Some stored
    → ((q : List ℕ) → next q ≡ cond (bytes_eq sum q) (Some (done_with stored)) (now q))
    → (q : List ℕ) → next q ≡ option_map (mark (take (i + 1) sums) q) (old q)
marks-more old now next sums i sum stored within is before there written q =
    written q
    ∙ elim (bytes_eq sum q) as (λ b. bytes_eq sum q ≡ b → cond b (Some (done_with stored)) (now q) ≡ option_map (by_mark (lists (take i sums) q || bytes_eq q sum)) (old q)) [
      | true ↦ λ same.
          marked_here (take i sums) q stored (bytes_eq q sum) (old q) (nat_list_eq_equiv.symm q sum ∙ same)
          (sym there ∙ ap now ((bytes_decides sum q).0 same) ∙ before q)
      | false ↦ λ other. before q ∙ marked_other (take i sums) q (bytes_eq q sum) (old q) (nat_list_eq_equiv.symm q sum ∙ other)
    ] refl
    ∙ mark-more sums i sum q (old q) within is

-- a checksum more, of which there is no file
pub marks-none : (old now : Found) (sums : Sums) (i : ℕ) (sum : List ℕ) → i < length sums → sum ≡ get_or sums i sum
    → ((q : List ℕ) → now q ≡ option_map (mark (take i sums) q) (old q))
    → now sum ≡ None
    → (q : List ℕ) → now q ≡ option_map (mark (take (i + 1) sums) q) (old q)
marks-none old now sums i sum within is before none q =
    elim (bytes_eq sum q) as (λ b. bytes_eq sum q ≡ b → now q ≡ option_map (by_mark (lists (take i sums) q || bytes_eq q sum)) (old q)) [
      | true ↦ λ same.
          let gone : now q ≡ None = ap now (sym ((bytes_decides sum q).0 same)) ∙ none in
          gone ∙ marked_none (take i sums) q (bytes_eq q sum) (old q) (sym (before q) ∙ gone)
      | false ↦ λ other. before q ∙ marked_other (take i sums) q (bytes_eq q sum) (old q) (nat_list_eq_equiv.symm q sum ∙ other)
    ] refl
    ∙ mark-more sums i sum q (old q) within is

gone_twice : {A : Type 0} (a b : Bool) (x : Option A) → cond b None (cond a None x) ≡ cond (a || b) None x
gone_twice true true x = refl
gone_twice true false x = refl
gone_twice false b x = refl

-- one file more is dropped
pub drops-more : (old now next : Found) (sums : Sums) (i : ℕ) (sum : List ℕ) → i < length sums → sum ≡ get_or sums i sum
    → ((q : List ℕ) → now q ≡ cond (lists (take i sums) q) None (old q))
    → ((q : List ℕ) → next q ≡ cond (bytes_eq sum q) None (now q))
    → (q : List ℕ) → next q ≡ cond (lists (take (i + 1) sums) q) None (old q)
drops-more old now next sums i sum within is before taken q =
    taken q
    ∙ ap (cond (bytes_eq sum q) None) (before q)
    ∙ gone_twice (lists (take i sums) q) (bytes_eq sum q) (old q)
    ∙ ap (λ b. cond (lists (take i sums) q || b) None (old q)) (nat_list_eq_equiv.symm sum q)
    ∙ ap (λ b. cond b None (old q)) (sym (lists-more sums i sum q within is))

-- the entries that are seen once all are marked
pub seen-marked : (old new : List (List ℕ × Stored)) (sums : Sums) → ((q : List ℕ) → lookup (bytes_eq q) new ≡ option_map (mark sums q) (lookup (bytes_eq q) old))
    → seen new ≡ with_committed sums (seen old)
seen-marked old new sums is =
    same_seen (seen new) (with_committed sums (seen old)) (λ q.
    get-seen new q ∙ is q ∙ ap (option_map (mark sums q)) (sym (get-seen old q)) ∙ sym (get-with_committed sums (seen old) q))

-- and once all are dropped
pub seen-dropped : (old new : List (List ℕ × Stored)) (sums : Sums) → ((q : List ℕ) → lookup (bytes_eq q) new ≡ cond (lists sums q) None (lookup (bytes_eq q) old))
    → seen new ≡ without sums (seen old)
seen-dropped old new sums is =
    same_seen (seen new) (without sums (seen old)) (λ q.
    get-seen new q ∙ is q ∙ ap (cond (lists sums q) None) (sym (get-seen old q)) ∙ sym (get-without sums (seen old) q))

-- of no files none are dropped
pub without_empty : (sums : Sums) → without sums finite.empty ≡ finite.empty
without_empty sums =
    same_seen (without sums finite.empty) finite.empty (λ q.
    get-without sums finite.empty q
    ∙ ap (cond (lists sums q) None) (finite.get-empty text_cmp q)
    ∙ elim (lists sums q) as (λ b. ◌≡◌ {A = Option Stored} (cond b None None) None) [ true ↦ refl | false ↦ refl ]
    ∙ sym (finite.get-empty text_cmp q))
