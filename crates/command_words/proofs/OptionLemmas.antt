-- What `clap` makes of one or two words, where a command takes one option alone.
use Rattle.std.proofs.Common.{◌≡◌, ℕ, Bool, true, false, ◌&&◌, ◌==◌, not, cond, List, [], ◌∷◌, Option, Some, None, is_some, length, map, ap₂, ◌≤◌, arith, codes, refl, sym, ap, ◌∙◌, subst, inl, inr}
use Rattle.std.specs.Borrow.{Bor}
use Rattle.std.specs.List.{All}
use Rattle.std.proofs.lemmas.List.{length-map}
use Rattle.std.proofs.lemmas.List.Elements.{All-map}
use Rattle.std.specs.Str.{bytes_eq, chars}
use Rattle.clap.specs.Lexer.{has_byte, long_of, name_and_value, short_of, short_of_rest, strip_byte}
use Rattle.clap.specs.Words.{AddsArg, App, app_of, new_app, rule_of, HasKind, HasMatchesOf, Kinds, Rule, Text, first_of, first_value, found_of, is_simple, is_simple_and_free, kind_of, matches_of, new_rule, rows_of, with_rule}
use Rattle.clap.specs.declared.error.Error.{Error}
use Rattle.clap.specs.declared.error.kind.ErrorKind.TheVariants.{OutOfMemory}
use Rattle.clap.specs.declared.parser.matches.ArgMatches.{ArgMatches}
use Rattle.clap.proofs.WalkLemmas.{first_value-rows}
use Rattle.clap.specs.Simple.{app_of_fields, new_shape, on_top}
use Rattle.clap.specs.declared.builder.arg.Arg.{Arg}
use Rattle.clap.specs.declared.builder.command.Command.{Command}
use Rattle.clap.specs.declared.builder.command.Command.TheViews.{out-Command}
use Rattle.clap.specs.Faults.{fault_of, defaults_fault, flags_fault, walk_fault}
use Rattle.clap.specs.Walk.{bundle_met, walked}
use Rattle.clap.specs.declared.builder.ArgAction.TheVariants.{Set}
use Rattle.command_words.specs.Words.{is_dashed, joined_value, next_value, only_value}
use Rattle.command_words.specs.Options.{IsPlainWord}
use Rattle.command_words.proofs.WordLemmas.{Word, bare, bare_begins, empty, long, no_value, other_sign, short, short_begins, value_cut, whole_cut, word_of}

-- the option, and the command that takes it alone
abbrev pub rule : Text → Rule
rule o = record (new_rule (codes "value")) { long = Some o; required = true; action = Some Set }

abbrev words_app : App
words_app = record { top = record (new_shape (codes "chefsite")) { no_binary_name = true; disable_help_flag = true }; subs = [] }

abbrev pub app : Text → App
app o = with_rule words_app (rule o)

-- nothing refuses the words
abbrev pub is_taken : Kinds → Bool
is_taken [] = true
is_taken (kind ∷ kinds) = false

-- the value that a parse gives
abbrev pub value_of : Text → List Text → Option Text
value_of o words = cond (is_taken (fault_of (app o) words)) (first_of (codes "value") (matches_of (app o) words)) None

-- what `clap` sees in a word with fewer hyphens than two
bare_long : (c : ℕ) (cs : Text) → (c == 45) ≡ false → long_of (c ∷ cs) ≡ None
bare_long c cs other = rw (other, strip_byte) refl

bare_short : (c : ℕ) (cs : Text) → (c == 45) ≡ false → short_of (c ∷ cs) ≡ None
bare_short c cs other = rw (other, strip_byte) refl

bare_end : (c : ℕ) (cs : Text) → (c == 45) ≡ false → bytes_eq (c ∷ cs) (45 ∷ 45 ∷ []) ≡ false
bare_end c cs other = rw other refl

short_long : (c : ℕ) (cs : Text) → (c == 45) ≡ false → long_of (45 ∷ c ∷ cs) ≡ None
short_long c cs other = rw (other, strip_byte) refl

short_short : (c : ℕ) (cs : Text) → (c == 45) ≡ false → short_of (45 ∷ c ∷ cs) ≡ Some (c ∷ cs)
short_short c cs other = rw (other, short_of_rest) refl

short_end : (c : ℕ) (cs : Text) → (c == 45) ≡ false → bytes_eq (45 ∷ c ∷ cs) (45 ∷ 45 ∷ []) ≡ false
short_end c cs other = rw other refl

-- no word
pub of_none : (o : Text) → value_of o [] ≡ None
unfolding walked bundle_met walk_fault flags_fault defaults_fault
of_none o = refl

-- a first word that is no option, whatever follows it
empty_first : (o : Text) (words : List Text) → value_of o ([] ∷ words) ≡ None
unfolding walked bundle_met walk_fault flags_fault defaults_fault
empty_first o words = refl

bare_first : (o : Text) (c : ℕ) (cs : Text) (words : List Text) → (c == 45) ≡ false → value_of o ((c ∷ cs) ∷ words) ≡ None
unfolding walked bundle_met walk_fault flags_fault defaults_fault
bare_first o c cs words other = rw (bare_end c cs other, bare_long c cs other, bare_short c cs other) refl

short_first : (o : Text) (c : ℕ) (cs : Text) (z : ℕ) (zs : Text) (words : List Text) → (c == 45) ≡ false → chars (c ∷ cs) ≡ z ∷ zs
    → value_of o ((45 ∷ c ∷ cs) ∷ words) ≡ None
unfolding walked bundle_met walk_fault flags_fault defaults_fault
short_first o c cs z zs words other first = rw (short_end c cs other, short_long c cs other, short_short c cs other, first) refl

other_first : (o : Text) (c : ℕ) (cs : Text) (words : List Text) → bytes_eq o (name_and_value (c ∷ cs)).0 ≡ false
    → value_of o ((45 ∷ 45 ∷ c ∷ cs) ∷ words) ≡ None
unfolding walked bundle_met walk_fault flags_fault defaults_fault
other_first o c cs words other = rw other refl

-- the option alone, without a value and with one
option_alone : (o : Text) (c : ℕ) (cs : Text) → bytes_eq o (name_and_value (c ∷ cs)).0 ≡ true → (name_and_value (c ∷ cs)).1 ≡ None
    → value_of o ((45 ∷ 45 ∷ c ∷ cs) ∷ []) ≡ None
unfolding walked bundle_met walk_fault flags_fault defaults_fault
option_alone o c cs same none = rw (same, none) refl

joined_alone : (o : Text) (c : ℕ) (cs v : Text) → bytes_eq o (name_and_value (c ∷ cs)).0 ≡ true → (name_and_value (c ∷ cs)).1 ≡ Some v
    → value_of o ((45 ∷ 45 ∷ c ∷ cs) ∷ []) ≡ Some v
unfolding walked bundle_met walk_fault flags_fault defaults_fault
joined_alone o c cs v same some = rw (same, some) refl

-- the option with a value in its word, and one more word
joined_empty : (o : Text) (c : ℕ) (cs v : Text) → bytes_eq o (name_and_value (c ∷ cs)).0 ≡ true → (name_and_value (c ∷ cs)).1 ≡ Some v
    → value_of o ((45 ∷ 45 ∷ c ∷ cs) ∷ [] ∷ []) ≡ None
unfolding walked bundle_met walk_fault flags_fault defaults_fault
joined_empty o c cs v same some = rw (same, some) refl

joined_bare : (o : Text) (c : ℕ) (cs v : Text) (d : ℕ) (ds : Text) → bytes_eq o (name_and_value (c ∷ cs)).0 ≡ true → (name_and_value (c ∷ cs)).1 ≡ Some v
    → (d == 45) ≡ false → value_of o ((45 ∷ 45 ∷ c ∷ cs) ∷ (d ∷ ds) ∷ []) ≡ None
unfolding walked bundle_met walk_fault flags_fault defaults_fault
joined_bare o c cs v d ds same some other = rw (same, some, bare_end d ds other, bare_long d ds other, bare_short d ds other) refl

joined_short : (o : Text) (c : ℕ) (cs v : Text) (d : ℕ) (ds : Text) (z : ℕ) (zs : Text) → bytes_eq o (name_and_value (c ∷ cs)).0 ≡ true
    → (name_and_value (c ∷ cs)).1 ≡ Some v → (d == 45) ≡ false → chars (d ∷ ds) ≡ z ∷ zs
    → value_of o ((45 ∷ 45 ∷ c ∷ cs) ∷ (45 ∷ d ∷ ds) ∷ []) ≡ None
unfolding walked bundle_met walk_fault flags_fault defaults_fault
joined_short o c cs v d ds z zs same some other first = rw (same, some, short_end d ds other, short_long d ds other, short_short d ds other, first) refl

joined_long : (o : Text) (c : ℕ) (cs v : Text) (d : ℕ) (ds : Text) → bytes_eq o (name_and_value (c ∷ cs)).0 ≡ true → (name_and_value (c ∷ cs)).1 ≡ Some v
    → (b : Bool) (w : Option Text) → bytes_eq o (name_and_value (d ∷ ds)).0 ≡ b → (name_and_value (d ∷ ds)).1 ≡ w
    → value_of o ((45 ∷ 45 ∷ c ∷ cs) ∷ (45 ∷ 45 ∷ d ∷ ds) ∷ []) ≡ None
unfolding walked bundle_met walk_fault flags_fault defaults_fault
joined_long o c cs v d ds same some false w is with_value = rw (same, some, is) refl
joined_long o c cs v d ds same some true None is with_value = rw (same, some, is, with_value) refl
joined_long o c cs v d ds same some true (Some x) is with_value = rw (same, some, is, with_value) refl

-- the option without a value in its word, and one more word
option_empty : (o : Text) (c : ℕ) (cs : Text) → bytes_eq o (name_and_value (c ∷ cs)).0 ≡ true → (name_and_value (c ∷ cs)).1 ≡ None
    → value_of o ((45 ∷ 45 ∷ c ∷ cs) ∷ [] ∷ []) ≡ Some []
unfolding walked bundle_met walk_fault flags_fault defaults_fault
option_empty o c cs same none = rw (same, none) refl

option_bare : (o : Text) (c : ℕ) (cs : Text) (d : ℕ) (ds : Text) → bytes_eq o (name_and_value (c ∷ cs)).0 ≡ true → (name_and_value (c ∷ cs)).1 ≡ None
    → (d == 45) ≡ false → value_of o ((45 ∷ 45 ∷ c ∷ cs) ∷ (d ∷ ds) ∷ []) ≡ Some (d ∷ ds)
unfolding walked bundle_met walk_fault flags_fault defaults_fault
option_bare o c cs d ds same none other = rw (same, none, bare_end d ds other, bare_long d ds other, bare_short d ds other) refl

option_short : (o : Text) (c : ℕ) (cs : Text) (d : ℕ) (ds : Text) (z : ℕ) (zs : Text) → bytes_eq o (name_and_value (c ∷ cs)).0 ≡ true
    → (name_and_value (c ∷ cs)).1 ≡ None → (d == 45) ≡ false → chars (d ∷ ds) ≡ z ∷ zs
    → value_of o ((45 ∷ 45 ∷ c ∷ cs) ∷ (45 ∷ d ∷ ds) ∷ []) ≡ None
unfolding walked bundle_met walk_fault flags_fault defaults_fault
option_short o c cs d ds z zs same none other first = rw (same, none, short_end d ds other, short_long d ds other, short_short d ds other, first) refl

option_long : (o : Text) (c : ℕ) (cs : Text) (d : ℕ) (ds : Text) → bytes_eq o (name_and_value (c ∷ cs)).0 ≡ true → (name_and_value (c ∷ cs)).1 ≡ None
    → (b : Bool) (w : Option Text) → bytes_eq o (name_and_value (d ∷ ds)).0 ≡ b → (name_and_value (d ∷ ds)).1 ≡ w
    → value_of o ((45 ∷ 45 ∷ c ∷ cs) ∷ (45 ∷ 45 ∷ d ∷ ds) ∷ []) ≡ None
unfolding walked bundle_met walk_fault flags_fault defaults_fault
option_long o c cs d ds same none false w is with_value = rw (same, none, is) refl
option_long o c cs d ds same none true None is with_value = rw (same, none, is, with_value) refl
option_long o c cs d ds same none true (Some x) is with_value = rw (same, none, is, with_value) refl

-- one word
of_long : (o : Text) (c : ℕ) (cs : Text) (b : Bool) (v : Option Text) → bytes_eq o (name_and_value (c ∷ cs)).0 ≡ b → (name_and_value (c ∷ cs)).1 ≡ v
    → value_of o ((45 ∷ 45 ∷ c ∷ cs) ∷ []) ≡ cond b v None
of_long o c cs false v is with_value = other_first o c cs [] is
of_long o c cs true None is with_value = option_alone o c cs is with_value
of_long o c cs true (Some v) is with_value = joined_alone o c cs v is with_value

pub of_one : (o w : Text) → has_byte 61 o ≡ false → Word w → value_of o (w ∷ []) ≡ joined_value (45 ∷ 45 ∷ o) w
of_one o w plain empty = empty_first o [] ∙ sym (no_value o [] refl).0
of_one o w plain (bare c cs other) = bare_first o c cs [] other ∙ sym (no_value o (c ∷ cs) (bare_begins c cs other)).0
of_one o w plain (short c cs other z zs first) = short_first o c cs z zs [] other first ∙ sym (no_value o (45 ∷ c ∷ cs) (short_begins c cs other)).0
of_one o w plain (long c cs) = of_long o c cs (bytes_eq o (name_and_value (c ∷ cs)).0) (name_and_value (c ∷ cs)).1 refl refl ∙ value_cut o (c ∷ cs) plain

-- two words, of which the first is the option with a value, or without one
joined_then : (o : Text) (c : ℕ) (cs v w : Text) → bytes_eq o (name_and_value (c ∷ cs)).0 ≡ true → (name_and_value (c ∷ cs)).1 ≡ Some v
    → Word w → value_of o ((45 ∷ 45 ∷ c ∷ cs) ∷ w ∷ []) ≡ None
joined_then o c cs v w same some empty = joined_empty o c cs v same some
joined_then o c cs v w same some (bare d ds other) = joined_bare o c cs v d ds same some other
joined_then o c cs v w same some (short d ds other z zs first) = joined_short o c cs v d ds z zs same some other first
joined_then o c cs v w same some (long d ds) = joined_long o c cs v d ds same some (bytes_eq o (name_and_value (d ∷ ds)).0) (name_and_value (d ∷ ds)).1 refl refl

option_then : (o : Text) (c : ℕ) (cs w : Text) → bytes_eq o (name_and_value (c ∷ cs)).0 ≡ true → (name_and_value (c ∷ cs)).1 ≡ None
    → Word w → value_of o ((45 ∷ 45 ∷ c ∷ cs) ∷ w ∷ []) ≡ cond (not (is_dashed w)) (Some w) None
option_then o c cs w same none empty = option_empty o c cs same none
option_then o c cs w same none (bare d ds other) = rw (other_sign d 45 other) (option_bare o c cs d ds same none other)
option_then o c cs w same none (short d ds other z zs first) = option_short o c cs d ds z zs same none other first
option_then o c cs w same none (long d ds) = option_long o c cs d ds same none (bytes_eq o (name_and_value (d ∷ ds)).0) (name_and_value (d ∷ ds)).1 refl refl

long_then : (o : Text) (c : ℕ) (cs w : Text) (b : Bool) (v : Option Text) → bytes_eq o (name_and_value (c ∷ cs)).0 ≡ b → (name_and_value (c ∷ cs)).1 ≡ v
    → Word w → value_of o ((45 ∷ 45 ∷ c ∷ cs) ∷ w ∷ []) ≡ cond ((b && not (is_some v)) && not (is_dashed w)) (Some w) None
long_then o c cs w false v is with_value word = other_first o c cs (w ∷ []) is
long_then o c cs w true (Some v) is with_value word = joined_then o c cs v w is with_value word
long_then o c cs w true None is with_value word = option_then o c cs w is with_value word

-- two words
none_next : (o w v : Text) → bytes_eq w (45 ∷ 45 ∷ o) ≡ false → None ≡ next_value (45 ∷ 45 ∷ o) w v
none_next o w v other = rw other refl

pub of_two : (o w v : Text) → has_byte 61 o ≡ false → Word w → Word v → value_of o (w ∷ v ∷ []) ≡ next_value (45 ∷ 45 ∷ o) w v
of_two o w v plain empty value = empty_first o (v ∷ []) ∙ none_next o [] v (no_value o [] refl).1
of_two o w v plain (bare c cs other) value = bare_first o c cs (v ∷ []) other ∙ none_next o (c ∷ cs) v (no_value o (c ∷ cs) (bare_begins c cs other)).1
of_two o w v plain (short c cs other z zs first) value =
    short_first o c cs z zs (v ∷ []) other first ∙ none_next o (45 ∷ c ∷ cs) v (no_value o (45 ∷ c ∷ cs) (short_begins c cs other)).1
of_two o w v plain (long c cs) value =
    let n = name_and_value (c ∷ cs) in
    rw (whole_cut o (c ∷ cs) plain) (long_then o c cs v (bytes_eq o n.0) n.1 refl refl value)

-- words that are read as they stand
value_at_most_two : (o : Text) (words : List Text) → has_byte 61 o ≡ false → length words ≤ 2 → All IsPlainWord words
    → value_of o words ≡ only_value (45 ∷ 45 ∷ o) words
value_at_most_two o [] plain few all = of_none o
value_at_most_two o (w ∷ []) plain few all = of_one o w plain (word_of w (all 0 w (omega arith)))
value_at_most_two o (w ∷ v ∷ []) plain few all = of_two o w v plain (word_of w (all 0 w (omega arith))) (word_of v (all 1 w (omega arith)))
value_at_most_two o (w ∷ v ∷ x ∷ words) plain few all = absurd (omega arith)

-- the words that were handed over
abbrev pub Handed : Type 0
Handed = List (Bor Text)

abbrev pub texts : Handed → List Text
texts = map (λ word. word.now)

value_is : (o : Text) (words : Handed) → has_byte 61 o ≡ false → length words ≤ 2 → All (λ word. IsPlainWord word.now) words
    → value_of o (texts words) ≡ only_value (45 ∷ 45 ∷ o) (texts words)
value_is o words plain few all =
    value_at_most_two o (texts words) plain (rw (length-map words (λ word. word.now)) few) (All-map IsPlainWord (λ word. word.now) words all)

simple : (o : Text) → is_simple (app o) ≡ true
simple o = refl

pub free : (o : Text) → is_simple_and_free (app o) ≡ true
free o = refl

-- the command that was built, by its parts
pub built_up : (first named helpless whole : Command) (o : Text) (argument : Arg)
    → app_of first ≡ new_app (codes "chefsite") → out-Command named ≡ record (out-Command first) { no_binary_name = true }
    → out-Command helpless ≡ record (out-Command named) { disable_help_flag = true }
    → rule_of argument ≡ rule o → argument.global ≡ false → AddsArg helpless argument whole → app_of whole ≡ app o
built_up first named helpless whole o argument is_first is_named is_helpless is_rule own adds =
    let without_name : app_of named ≡ on_top (λ s. record s { no_binary_name = true }) (app_of first) = ap app_of_fields is_named in
    let without_help : app_of helpless ≡ on_top (λ s. record s { disable_help_flag = true }) (app_of named) = ap app_of_fields is_helpless in
    let bare_app : app_of helpless ≡ words_app =
    without_help ∙ ap (on_top (λ s. record s { disable_help_flag = true })) (without_name ∙ ap (on_top (λ s. record s { no_binary_name = true })) is_first) in
    adds.shape own ∙ ap₂ with_rule bare_app is_rule

-- a parse that gives matches gives the value
pub value_found : (o : Text) (words : Handed) (a : App) (m : ArgMatches) → a ≡ app o → has_byte 61 o ≡ false → length words ≤ 2 → All (λ word. IsPlainWord word.now) words
    → fault_of a (texts words) ≡ [] → HasMatchesOf a (texts words) m → first_value (found_of m) (codes "value") ≡ only_value (45 ∷ 45 ∷ o) (texts words)
value_found o words a m is plain few all passes matches =
    let here : fault_of (app o) (texts words) ≡ [] = sym (ap (λ b. fault_of b (texts words)) is) ∙ passes in
    let rows : rows_of (found_of m) ≡ matches_of (app o) (texts words) = (matches (ap is_simple is ∙ simple o)).0 ∙ ap (λ b. matches_of b (texts words)) is in
    let given = first_of (codes "value") (matches_of (app o) (texts words)) in
    first_value-rows (found_of m) (codes "value")
    ∙ ap (first_of (codes "value")) rows
    ∙ sym (ap (λ (f : Kinds). cond (is_taken f) given None) here)
    ∙ value_is o words plain few all

-- one that fails for another cause than want of memory has none
pub value_refused : (o : Text) (words : Handed) (a : App) (e : Error) → a ≡ app o → has_byte 61 o ≡ false → length words ≤ 2 → All (λ word. IsPlainWord word.now) words
    → HasKind (fault_of a (texts words)) e → (kind_of e ≡ OutOfMemory → ⊥) → None ≡ only_value (45 ∷ 45 ∷ o) (texts words)
value_refused o words a e is plain few all fails memory =
    go (fault_of (app o) (texts words)) refl (subst (λ b. HasKind (fault_of b (texts words)) e) is fails) ∙ value_is o words plain few all
  where
    go : (f : Kinds) → fault_of (app o) (texts words) ≡ f → HasKind f e → None ≡ value_of o (texts words)
    go [] same (inl full) = absurd (memory full)
    go [] same (inr none) = absurd none
    go (k ∷ ks) same kind = sym (ap (λ (g : Kinds). cond (is_taken g) (first_of (codes "value") (matches_of (app o) (texts words))) None) same)
