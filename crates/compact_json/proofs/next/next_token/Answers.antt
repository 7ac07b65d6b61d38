-- A document begins with a token, with which a value may begin.
use Rattle.std.proofs.Common.{◌≡◌, ◌∷◌, sym, ◌∙◌, arith}
use Rattle.json.specs.Reads.{token_of}
use Rattle.compact_json.specs.Compact.{first_doc}
use Rattle.compact_json.proofs.NextLemmas.{not_at_end, begins_value-first}
use Rattle.compact_json.proofs.next.next_token.Goals as goal

pub unreachable-requires : goal.unreachable-requires
unreachable-requires c = not_at_end (first_doc c.args.reader.now) _ _ (grind arith) c.requires.1.1

pub returns-clause-begins : goal.returns-clause-begins
returns-clause-begins c =
    let first : c.args.reader.now ≡ token_of c.in-Some.token ∷ c.next.new.self = grind arith in
    begins_value-first (first_doc c.args.reader.now) (token_of c.in-Some.token) c.next.new.self c.requires.1.0 (sym first ∙ c.requires.1.1)
