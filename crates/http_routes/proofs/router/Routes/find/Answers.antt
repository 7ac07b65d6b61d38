-- What isn't segments names no path, and the router finds the row of what is.
use Rattle.std.proofs.Common.{◌≡◌, ◌∙◌, Option, Some, None, ap, refl, subst, sym}
use Rattle.std.specs.Option.{option_map}
use Rattle.std.specs.Str.{IsUtf8}
use Rattle.matchit.specs.Router.{RouteOf}
use Rattle.matchit.specs.Seek.{first}
use Rattle.org_requests.specs.declared.table.Row.{Row}
use Rattle.org_requests.specs.Table.{target_at, target_of}
use Rattle.http_routes.proofs.router.Routes.find.Goals as goal

pub returns-then-not-are_segments : goal.returns-then-not-are_segments
unfolding target_at
returns-then-not-are_segments c = rw (sym c.are_segments.ensures ∙ c.if-not-are_segments.true) refl

targets_of : (found : Option (RouteOf Row)) → option_map target_of (option_map (λ route. route.value) found) ≡ option_map (λ route. target_of route.value) found
targets_of None = refl
targets_of (Some route) = refl

pub returns : goal.returns
returns c =
    let same = c.as_str.ensures.value ∙ c.in_ok-path.ensures in
    ap (λ row. option_map target_of row) c.found.ensures
    ∙ targets_of (first c.args.self.now.router c.as_str.result.now)
    ∙ ap (λ p. option_map (λ route. target_of route.value) (first c.args.self.now.router p)) same
    ∙ c.args.self.now.table.finds c.args.segments.now (sym c.are_segments.ensures ∙ c.if-not-are_segments.false) (subst IsUtf8 same c.as_str.utf8)
