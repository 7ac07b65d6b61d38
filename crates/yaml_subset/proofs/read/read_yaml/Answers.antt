-- One line more, the fault at a line that is refused, and the end.
use Rattle.std.proofs.Common.{◌≡◌, ◌<◌, ◌≤◌, ℕ, List, get_or, length, sym, ap, subst, ◌∙◌, arith}
use Rattle.std.proofs.lemmas.Iterator.Splits.{YieldsList-from_lines}
use Rattle.std.proofs.lemmas.Iterator.Consumers.{YieldsList-turn, YieldsList-end}
use Rattle.std.proofs.lemmas.List.{length_push}
use Rattle.std.specs.Str.Lines.{lines}
use Rattle.doc_tree.specs.Doc.{Doc}
use Rattle.yaml_subset.specs.Reader.{read_step}
use Rattle.yaml_subset.specs.Spells.{SpellsLines, kind_of}
use Rattle.yaml_subset.proofs.FaultLemmas.{step_reads, step_takes, step_fine, fault_is, end_is, never_none}
use Rattle.yaml_subset.proofs.MachineLemmas.{goes, stops}
use Rattle.yaml_subset.proofs.read.read_yaml.Goals as goal

pub loop-line-preserved : goal.loop-line-preserved
loop-line-preserved c =
    let all = lines c.args.text.now in
    let t = YieldsList-turn (YieldsList-from_lines c.args.text.now cc) c.loop-line.yielded _ c.loop-line.yielded_by _ _ c.in-Some.line c.in-Some.is c.next.ensures.steps in
    let n = c.loop-line.count in
    let count : n ≡ length c.loop-line.yielded = c.loop-line.invariant.0 in
    let less : n < length all = omega (arith, t.0) in
    let at : c.in-Some.line.now ≡ get_or all n c.in-Some.line.now = t.1 ∙ ap (λ (k : ℕ). get_or all k c.in-Some.line.now) (sym count) in
    let is = ap (λ (l : List ℕ). read_step l c.loop-line.reader) (sym c.as_bytes-line.ensures.value) ∙ goes _ _ _ c.in_ok-read_step.ensures c.if-not-branch.false in
    (omega (arith, length_push c.loop-line.yielded c.in-Some.line), step_reads all n _ _ _ less at is c.loop-line.invariant.1, step_takes all n _ _ _ less at is c.loop-line.invariant.2, step_fine _ _ _ c.loop-line.invariant.3 is)

pub returns-then-not-branch-clause-fault : goal.returns-then-not-branch-clause-fault
returns-then-not-branch-clause-fault c =
    let all = lines c.args.text.now in
    let t = YieldsList-turn (YieldsList-from_lines c.args.text.now cc) c.loop-line.yielded _ c.loop-line.yielded_by _ _ c.in-Some.line c.in-Some.is c.next.ensures.steps in
    let n = c.loop-line.count in
    let count : n ≡ length c.loop-line.yielded = c.loop-line.invariant.0 in
    let less : n < length all = omega (arith, t.0) in
    let at : c.in-Some.line.now ≡ get_or all n c.in-Some.line.now = t.1 ∙ ap (λ (k : ℕ). get_or all k c.in-Some.line.now) (sym count) in
    let is = ap (λ (l : List ℕ). read_step l c.loop-line.reader) (sym c.as_bytes-line.ensures.value) ∙ stops _ _ _ c.in_ok-read_step.ensures c.if-not-branch.true in
    fault_is all n _ _ _ less at is c.loop-line.invariant.1 c.loop-line.invariant.2 (c.in_ok-kind.ensures ∙ ap kind_of c.as_bytes-line.ensures.value)

pub returns-clause-tree : goal.returns-clause-tree
returns-clause-tree c =
    let all = lines c.args.text.now in
    let t = YieldsList-end (YieldsList-from_lines c.args.text.now cc) c.loop-line.yielded _ c.loop-line.yielded_by _ _ c.in-None.is c.next.ensures.steps in
    let over : length all ≤ c.loop-line.count = omega (arith, t.1, c.loop-line.invariant.0) in
    subst (λ (d : Doc). SpellsLines all d) (sym c.into_tree.ensures.tree) (end_is all c.loop-line.count _ _ over c.loop-line.invariant.1 (sym c.in_ok-document.ensures ∙ c.in-Some-2.is))

pub unreachable-requires : goal.unreachable-requires
unreachable-requires c = never_none c.loop-line.reader c.in_ok-document.field-0 c.loop-line.invariant.3 c.in_ok-document.ensures c.in-None-2.is
