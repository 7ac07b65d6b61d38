-- One object more.
use Rattle.std.proofs.Common.{◌≡◌, ◌∙◌, ◌+◌, List, ℕ, Some, take, get_or, sym, ap, subst}
use Rattle.std.specs.Global.{Vec}
use Rattle.std.proofs.lemmas.Bool.{false≢true}
use Rattle.std.proofs.lemmas.Grind.{get_or_default_zero}
use Rattle.doc_tree.specs.declared.text.Text.{Text}
use Rattle.search_index.specs.KeyOrder.{object_key}
use Rattle.search_index.proofs.NameLemmas.{NamesSoFar, names_all, names_less, names_more}
use Rattle.search_index.proofs.names.names_among.Goals as goal
use Rattle.search_index.proofs.names.names_among.Goals.{then-has+in-Some+in_ok-copy+in_ok-push, then-has+in_default, else-has}

pub loop-number-preserved : goal.loop-number-preserved
loop-number-preserved c =
    let numbers : List ℕ = c.args.numbers.now in
    let i = c.loop-number.number-index in
    let j : ℕ = get_or numbers i 0 in
    let at : j ≡ get_or numbers i j = sym (get_or_default_zero numbers i j c.loop-number-test.true) in
    elim c.if-has.branch [
      | then-has+in-Some+in_ok-copy+in_ok-push w ↦
          let copied = w.in_ok-copy.ensures in
          let pushed = w.in_ok-push.ensures.items in
          subst (λ (z : List (List ℕ)). NamesSoFar c.args.objects.now c.args.scope c.args.found.now (take (i + 1) numbers) z) (sym (ap (λ (v : Vec Text). v.items) w.names-is ∙ pushed))
          (names_more c.args.objects.now c.args.scope c.args.found.now numbers c.loop-number.names.items i j w.in_ok-copy.field-0 c.loop-number-test.true at c.loop-number.invariant (sym c.has.ensures ∙ w.if-has.true)
          (w.in-Some.ensures ∙ ap (λ (z : List ℕ). Some (object_key c.args.scope z)) (sym copied)))
      | then-has+in_default w ↦
          subst (λ (z : List (List ℕ)). NamesSoFar c.args.objects.now c.args.scope c.args.found.now (take (i + 1) numbers) z) (sym (ap (λ (v : Vec Text). v.items) w.names-is))
          (names_less c.args.objects.now c.args.scope c.args.found.now numbers c.loop-number.names.items i j c.loop-number-test.true at c.loop-number.invariant (λ name is h. w.in_default.ensures name is))
      | else-has w ↦
          subst (λ (z : List (List ℕ)). NamesSoFar c.args.objects.now c.args.scope c.args.found.now (take (i + 1) numbers) z) (sym (ap (λ (v : Vec Text). v.items) w.names-is))
          (names_less c.args.objects.now c.args.scope c.args.found.now numbers c.loop-number.names.items i j c.loop-number-test.true at c.loop-number.invariant (λ name is h. false≢true (sym w.if-has.false ∙ c.has.ensures ∙ h)))
    ]

pub returns : goal.returns
returns c = names_all c.args.objects.now c.args.scope c.args.found.now c.args.numbers.now c.loop-number.names.items c.loop-number.number-index c.loop-number-test.false c.loop-number.invariant c.requires
