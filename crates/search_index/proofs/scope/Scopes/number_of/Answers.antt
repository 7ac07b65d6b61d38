-- Equal scopes are one.
use Rattle.search_index.proofs.EqualKeys.{same_scopes}
use Rattle.search_index.proofs.scope.Scopes.number_of.Goals as goal

pub number_of-requires-clause-alike : goal.number_of-requires-clause-alike
number_of-requires-clause-alike c = same_scopes
