-- A text has one reading.
use Rattle.std.proofs.Common.{ap, subst}
use Rattle.query_text.specs.Place.{IsFault}
use Rattle.query_text.specs.declared.fault.QueryFault.{QueryFault}
use Rattle.search_routes.specs.Searches.{or_bad_query}
use Rattle.search_routes.proofs.ReadingLemmas.{fault_is_read, query_is_read}
use Rattle.search_routes.proofs.asking.query_in.Goals as goal

pub returns-in-Ok : goal.returns-in-Ok
returns-in-Ok c = ap or_bad_query (query_is_read c.args.text.now c.in-Ok.query c.in-Ok.ensures.query)

pub returns-in-Err-NotAQuery : goal.returns-in-Err-NotAQuery
returns-in-Err-NotAQuery c =
    ap or_bad_query
    (fault_is_read c.args.text.now c.in-Err-NotAQuery.place
    (subst (λ (fault : QueryFault). IsFault c.args.text.now fault) c.in-Err-NotAQuery.field-0-is c.in-Err-NotAQuery.ensures.fault))
