-- What a router of the table knows.
use Rattle.std.specs.Prelude.{◌≡◌, Bool, true, false, ◌&&◌, ℕ, List, [], ◌∷◌, Result, Ok, Err, is_none}
use Rattle.std.specs.List.{list_all}
use Rattle.std.specs.Option.{option_map}
use Rattle.std.specs.Str.{IsUtf8}
use Rattle.matchit.specs.Rows.{RowsOf}
use Rattle.matchit.specs.Order.{placed}
use Rattle.matchit.specs.Route.{Scan, parse_route}
use Rattle.matchit.specs.Router.{RouteOf, route_from, nearest}
use Rattle.matchit.specs.Seek.{first}
use Rattle.matchit.specs.declared.error.InsertError.{InsertError}
use Rattle.org_requests.specs.declared.table.Row.{Row}
use Rattle.org_requests.specs.Patterns.{is_segment, joined}
use Rattle.org_requests.specs.Table.{target_at, target_of}

-- the router finds, for the path of any segments, what the table has for them
pub record FindsRows (router : RowsOf (RouteOf Row)) : Type 0 where
  pub finds : (segments : List (List ℕ)) → list_all is_segment segments ≡ true → IsUtf8 (joined segments)
      → option_map (λ route. target_of route.value) (first router (joined segments)) ≡ target_at segments

-- the router with one more route
abbrev pub with_route : Result Scan InsertError → Row → RowsOf (RouteOf Row) → RowsOf (RouteOf Row)
with_route (Ok scan) row router = placed (scan.pattern, route_from scan row) router
with_route (Err fault) row router = router

-- the router with a route for each of these rows
unfoldable pub with_rows : List Row → RowsOf (RouteOf Row) → RowsOf (RouteOf Row)
with_rows [] router = router
with_rows (row ∷ rest) router = with_rows rest (with_route (parse_route row.pattern.now) row router)

-- a route can be added to the router: it reads well, and no route there conflicts with it
abbrev pub fits : Result Scan InsertError → RowsOf (RouteOf Row) → Bool
fits (Ok scan) router = is_none (nearest scan.pattern router)
fits (Err fault) router = false

-- these rows can be added to the router, one behind the other
unfoldable pub fits_all : List Row → RowsOf (RouteOf Row) → Bool
fits_all [] router = true
fits_all (row ∷ rest) router =
    fits (parse_route row.pattern.now) router && fits_all rest (with_route (parse_route row.pattern.now) row router)
