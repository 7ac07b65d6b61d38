-- One token more of a flow.
use Rattle.std.proofs.Common.{◌≡◌, ◌==◌, ◌≢◌, ℕ, false, List, [], ◌∷◌, Option, Some, None, option_map, option_and_then, refl, ap, ap₂, sym, ◌∙◌, arith}
use Rattle.std.proofs.lemmas.Bool.Decides.{nat_tests}
use Rattle.doc_tree.specs.Doc.{Doc}
use Rattle.yaml_subset.specs.Flow.{flow_from, flow_over, flow_run, flow_step, with_token}
use Rattle.yaml_subset.specs.Tokens.{next_token, token_at, tokens}
use Rattle.yaml_subset.specs.declared.token.Token.{Token}
use Rattle.yaml_subset.specs.declared.flow.Flowing.{Flowing}

pub run_none : (ts : List Token) → flow_run None ts ≡ None
run_none [] = refl
run_none (t ∷ ts) = run_none ts

-- what follows a token
abbrev from_next : Option (Flowing × ℕ) → List ℕ → Option Doc
from_next None after = None
from_next (Some p) after = flow_from p.0 p.1 after

over_with : (t : Token) (s : Flowing) (n : ℕ) (next : Option Flowing) (o : Option (List Token)) → flow_step t s ≡ next
    → option_and_then flow_over (option_and_then (flow_run (Some s)) (option_map (λ ts. t ∷ ts) o)) ≡ option_and_then (λ x. option_and_then flow_over (option_and_then (flow_run (Some x)) o)) next
over_with t s n None None is = refl
over_with t s n (Some x) None is = refl
over_with t s n None (Some ts) is = ap (λ o. option_and_then flow_over (flow_run o ts)) is ∙ ap (option_and_then flow_over) (run_none ts)
over_with t s n (Some x) (Some ts) is = ap (λ o. option_and_then flow_over (flow_run o ts)) is

next_is : (t : Token) (s : Flowing) (n : ℕ) (after : List ℕ) (next : Option Flowing) → option_and_then (λ x. option_and_then flow_over (option_and_then (flow_run (Some x)) (tokens n after))) next ≡ from_next (option_map (λ x. (x, n)) next) after
next_is t s n after None = refl
next_is t s n after (Some x) = refl

next_from : (s : Flowing) (found : Option (Token × ℕ)) (after : List ℕ)
    → option_and_then flow_over (option_and_then (flow_run (Some s)) (next_token found (λ n. tokens n after))) ≡ from_next (with_token s found) after
next_from s None after = refl
next_from s (Some p) after = over_with p.0 s p.1 (flow_step p.0 s) (tokens p.1 after) refl ∙ next_is p.0 s p.1 after (flow_step p.0 s)

-- a token that begins here
pub from_token : (s : Flowing) (b skip : ℕ) (rest after : List ℕ) (next : Option (Flowing × ℕ)) → skip ≡ 0 → rest ≡ b ∷ after → b ≢ 32 → next ≡ with_token s (token_at b after)
    → flow_from s skip rest ≡ from_next next after
from_token s b skip rest after next none is apart at =
    let other : (b == 32) ≡ false = grind (arith, nat_tests) in
    ap₂ (λ (n : ℕ) (t : List ℕ). flow_from s n t) none is ∙ here other ∙ ap (λ o. from_next o after) (sym at)
  where
    here : (b == 32) ≡ false → flow_from s 0 (b ∷ after) ≡ from_next (with_token s (token_at b after)) after
    here other = rw other (next_from s (token_at b after) after)
