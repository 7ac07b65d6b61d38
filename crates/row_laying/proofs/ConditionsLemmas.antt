-- What the rows of an organisation say meets the conditions of its state.
use Rattle.std.proofs.Common.{◌≡◌, inl, ℕ, List, [], ◌∷◌, Some, is_some, codes, refl, sym, ap, subst, ◌∙◌}
use mathlib.Core.Bool.{true≢false}
use Rattle.std.proofs.lemmas.Option.{none-some}
use Rattle.std.specs.FinMap as finite
use Rattle.outside_keeper.specs.Rows.{KeptRows}
use Rattle.org_core.specs.AccessConditions.{AccessConditions}
use Rattle.org_core.specs.Conditions.{MeetsConditions}
use Rattle.membership.specs.Members.{nobody}
use Rattle.membership.specs.Rooms as groups
use Rattle.object_store.specs.Objects.{Store}
use Rattle.org_shelves.specs.Shelved as shelves
use Rattle.doc_tree.specs.declared.kind.Kind.TheVariants as kinds
use Rattle.object_store.specs.Keys.{key, key_cmp}
use Rattle.org_core.specs.ObjectConditions.{ObjectConditions}
use Rattle.org_core.specs.FullStates.{FullState, MeetsFileConditions, full_in}
use Rattle.org_core.specs.States.{Kept, Organisation, nothing, state_in}
use Rattle.sandboxes.specs.Files.{KeptByName, holding_of}
use Rattle.sandboxes.specs.Sandboxes.{Holding}
use Rattle.sandboxes.specs.Sandboxes as sandboxes
use Rattle.row_laying.proofs.ClientLemmas.{has_its_clients}
use Rattle.row_laying.proofs.ListedLemmas.{listed_there}
use Rattle.row_laying.proofs.MemberLemmas.{members_there, actors_there, groups_there, all_named, are_apart}
use Rattle.row_laying.proofs.ObjectLemmas.{object_conditions, groups_start, own_rows}
use Rattle.row_laying.proofs.RowsLemmas.{are_rows}
use Rattle.row_laying.proofs.ShelfLemmas.{shelf_conditions, files_there}
use Rattle.row_reading.specs.declared.said.Said.{Said}
use Rattle.row_laying.specs.KeptRows.{AreKept}
use Rattle.row_laying.specs.Laying.{organisation_from, with_all, files_with_all}
use Rattle.row_laying.specs.SaidRows.{IsAmong, AreRowsIn}

module _ (org : List ℕ) (rows : KeptRows) (all : List Said) (are : AreKept org rows all) (one : Said) (among : IsAmong one all) where
  pub access_conditions : AccessConditions (with_all all nothing)
  access_conditions = record {
    listed = listed_there org rows all are (own_rows org rows all are one among);
    actors = actors_there org rows all are;
    groups = groups_there org rows all are;
    members = members_there org rows all are;
    starting = groups_start org rows all are one among;
    apart = are_apart org rows all are;
    named = all_named org rows all are;
  }

  pub meets : MeetsConditions (Some (with_all all nothing))
  meets = (object_conditions org rows all are one among, (access_conditions, (has_its_clients all, shelf_conditions org rows all are)))

  pub meets_files : MeetsFileConditions (record { state = Some (with_all all nothing); files = files_with_all all sandboxes.nothing })
  meets_files = record { nobody = λ is. absurd (none-some _ (sym is)); named = files_there org rows all are }

-- parts that hold nothing are an organisation without anything
pub begins : (store : Store) (members : groups.Kept) (on : shelves.Kept) → store.objects ≡ finite.empty → store.lists ≡ finite.empty → members.membership ≡ nobody → on.shelved ≡ shelves.nothing
    → organisation_from store members on ≡ nothing
begins store members on objects lists membership shelved = λ i. record { objects = objects i; lists = lists i; membership = membership i; shelved = shelved i }

-- something was said, where what was laid meets the conditions of objects
pub some_said : (all : List Said) → ObjectConditions (with_all all nothing).objects → (one : Said) × IsAmong one all
some_said [] meets' = absurd (true≢false (sym meets'.default_environment ∙ ap is_some (finite.get-empty key_cmp (key kinds.Environment (codes "_default")))))
some_said (one ∷ rest) meets' = (one, inl refl)

-- the conditions of files, where the state and the files are those
pub same_files : (o p : Organisation) (h g : Holding) → p ≡ o → g ≡ h → MeetsFileConditions (record { state = Some o; files = h }) → MeetsFileConditions (record { state = Some p; files = g })
same_files o p h g same same' is = subst (λ (full : FullState). MeetsFileConditions full) (λ i. record { state = Some (sym same i); files = sym same' i }) is

-- a state of what was laid, with its files
pub full_is : (s : Kept) (files : KeptByName) (org : List ℕ) (all : List Said) (o : Organisation) → s.name ≡ org → state_in s ≡ Some o → o ≡ with_all all nothing
    → holding_of files org ≡ files_with_all all sandboxes.nothing → ◌≡◌ {A = FullState} (full_in s files) (record { state = Some (with_all all nothing); files = files_with_all all sandboxes.nothing })
full_is s files org all o name state whole held' = λ i. record { state = (state ∙ ap Some whole) i; files = (ap (holding_of files) name ∙ held') i }

-- its rows
pub rows_are : (s : Kept) (files : KeptByName) (org : List ℕ) (rows : KeptRows) (all : List Said) (o : Organisation) → AreKept org rows all → (one : Said) → IsAmong one all
    → s.name ≡ org → state_in s ≡ Some o → o ≡ with_all all nothing → holding_of files org ≡ files_with_all all sandboxes.nothing → AreRowsIn org rows (full_in s files)
rows_are s files org rows all o are one among name state whole held' =
    subst (λ (full : FullState). AreRowsIn org rows full) (sym (full_is s files org all o name state whole held')) (are_rows org rows all are.are_said (own_rows org rows all are one among))
