-- What changed lists say.
use Rattle.std.proofs.Common.{◌≡◌, ◌||◌, Bool, true, false, cond, not, ℕ, List, [], ◌∷◌, ◌++◌, bytes_eq, refl, sym, ap, ◌∙◌}
use Rattle.std.specs.Cmp.Lexicographic.{nat_list_cmp_total, nat_list_eq_equiv, bytes_decides}
use Rattle.std.specs.FinMap as finite
use Rattle.std.specs.FinSet as set
use Rattle.membership.specs.declared.lists.GroupLists.{GroupLists}
use Rattle.membership.specs.declared.lists.GroupRow.{GroupRow}
use Rattle.membership.specs.TextSets.{lists, without, Names}
use Rattle.membership.specs.Members.{GroupsByName}
use Rattle.membership.specs.NameSets.{seen}
use Rattle.membership.specs.Lists.{members_in, with_rows}
use Rattle.membership.specs.Laws.{FollowsLists, FollowsRow, TakesTheLast}
use Rattle.membership.proofs.SearchLemmas.{text_cmp_ties}
use Rattle.membership.proofs.NameSetLemmas.{seen-remove}

-- one more name
more : (names : List (List ℕ)) (name : List ℕ) → seen (names ++ name ∷ []) ≡ set.insert (seen names) name
more names name = set.from_list_push nat_list_cmp_total text_cmp_ties names name

nothing : (b : Bool) → false ≡ cond b false false
nothing true = refl
nothing false = refl

-- of a name that goes
goes : (name x q : List ℕ) (b : Bool) (rest : Bool) → name ≡ x → bytes_eq name q ≡ b → cond b false rest ≡ cond b false (bytes_eq q x || rest)
goes name x q true rest same is = refl
goes name x q false rest same is = ap (λ c. c || rest) (sym (ap (bytes_eq q) (sym same) ∙ nat_list_eq_equiv.symm q name ∙ is))

-- of one that stays
stays : (name x q : List ℕ) (b : Bool) (rest : Bool) → bytes_eq name x ≡ false → bytes_eq name q ≡ b → (bytes_eq q x || cond b false rest) ≡ cond b false (bytes_eq q x || rest)
stays name x q false rest other is = refl
stays name x q true rest other is = ap (λ c. c || false) (ap (λ k. bytes_eq k x) (sym ((bytes_decides name q).0 is)) ∙ other)

-- the names without one list what they listed but that one
lists-without : (name : List ℕ) (xs : List (List ℕ)) (q : List ℕ) → lists (without name xs) q ≡ cond (bytes_eq name q) false (lists xs q)
lists-without name [] q = nothing (bytes_eq name q)
lists-without name (x ∷ xs) q =
    elim (bytes_eq name x) as (λ b. bytes_eq name x ≡ b → lists (cond (not b) (x ∷ without name xs) (without name xs)) q ≡ cond (bytes_eq name q) false (bytes_eq q x || lists xs q)) [
      | true ↦ λ is. lists-without name xs q ∙ goes name x q (bytes_eq name q) (lists xs q) ((bytes_decides name x).0 is) refl
      | false ↦ λ is. ap (λ c. bytes_eq q x || c) (lists-without name xs q) ∙ stays name x q (bytes_eq name q) (lists xs q) is refl
    ] refl

-- one name fewer
fewer : (names : List (List ℕ)) (name : List ℕ) → seen (without name names) ≡ set.remove (seen names) name
fewer names name = seen-remove names (without name names) name (lists-without name names)

pub follows_lists : (lists : GroupLists) (name : List ℕ) → FollowsLists lists name
follows_lists lists name =
    let groups = with_rows finite.empty lists.groups in
    let users : Names = seen lists.users in
    let clients : Names = seen lists.clients in
    record {
      user_comes = λ i. record { users = more lists.users name i; clients = clients; groups = groups };
      user_goes = λ i. record { users = fewer lists.users name i; clients = clients; groups = groups };
      client_comes = λ i. record { users = users; clients = more lists.clients name i; groups = groups };
      client_goes = λ i. record { users = users; clients = fewer lists.clients name i; groups = groups };
    }

pub follows_row : (row : GroupRow) (name : List ℕ) → FollowsRow row name
follows_row row name =
    let users : Names = seen row.users in
    let clients : Names = seen row.clients in
    let groups : Names = seen row.groups in
    record {
      user_joins = λ i. record { users = more row.users name i; clients = clients; groups = groups };
      user_leaves = λ i. record { users = fewer row.users name i; clients = clients; groups = groups };
      client_joins = λ i. record { users = users; clients = more row.clients name i; groups = groups };
      client_leaves = λ i. record { users = users; clients = fewer row.clients name i; groups = groups };
      group_joins = λ i. record { users = users; clients = clients; groups = more row.groups name i };
      group_leaves = λ i. record { users = users; clients = clients; groups = fewer row.groups name i };
    }

-- rows, and then one more
rows-push : (groups : GroupsByName) (rows : List GroupRow) (row : GroupRow) → with_rows groups (rows ++ row ∷ []) ≡ finite.insert (with_rows groups rows) row.name (members_in row)
rows-push groups [] row = refl
rows-push groups (first ∷ rows) row = rows-push (finite.insert groups first.name (members_in first)) rows row

pub takes_the_last : (lists : GroupLists) (row : GroupRow) → TakesTheLast lists row
takes_the_last lists row = λ i. record { users = seen lists.users; clients = seen lists.clients; groups = rows-push finite.empty lists.groups row i }
