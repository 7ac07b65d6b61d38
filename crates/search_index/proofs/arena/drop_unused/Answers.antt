-- A term without a posting is out.
use Rattle.std.proofs.Common.{◌≡◌, ◌∙◌, inl, inr, None, sym, ap}
use Rattle.std.proofs.lemmas.Bool.{cases_eq}
use Rattle.ordered_keys.specs.Keys.{key_of}
use Rattle.search_index.proofs.arena.drop_unused.Goals as goal

pub returns-then-is_unused : goal.returns-then-is_unused
returns-then-is_unused c =
    let unused = c.is_unused.ensures.0 c.if-is_unused.true in
    record {
      kept = λ j y is out. c.remove.ensures.others j (λ e. out e unused) ∙ is;
      from = λ j y is. elim (cases_eq j c.args.term) [
        | inl e ↦ absurd (let none : key_of c.remove.new.self j ≡ None = ap (key_of c.remove.new.self) e ∙ c.remove.ensures.gone in cc)
        | inr differs ↦ (sym (c.remove.ensures.others j differs) ∙ is, λ e. absurd (differs e))
      ];
      room = c.remove.ensures.room;
      size = c.remove.ensures.size;
    }
