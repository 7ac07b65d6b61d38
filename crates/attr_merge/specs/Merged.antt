-- What a merge gives: a document, and the leaves with their origins.
use Rattle.std.specs.Prelude.{ℕ, List, Option, refl}
use Rattle.std.specs.BTreeMap.{is_at}
use Rattle.std.specs.Cmp.Lexicographic.{slice_cmp}
use Rattle.std.specs.Coded.{Coded, code_by, coded×, coded_list, coded_ℕ}
use Rattle.std.specs.Map.{lookup}
use Rattle.std.specs.Ordering.{nat_cmp}
use Rattle.std.specs.declared.cmp.Ordering.{Ordering}
use Rattle.doc_tree.specs.Doc.{Doc}
use Rattle.doc_tree.specs.DocCode.{doc_code}

-- a document, and the paths of its leaves, each with the positions of the layers that the leaf comes from
pub record Effective : Type 0 where
  pub document : Doc
  pub leaves : List (List (List ℕ) × List ℕ)

-- it is stored as the pair of these
abbrev pub effective_code : Coded Effective
effective_code =
    code_by (Doc × List (List (List ℕ) × List ℕ)) (coded× doc_code (coded_list (coded× (coded_list (coded_list coded_ℕ)) (coded_list coded_ℕ))))
    (λ e. (e.document, e.leaves)) (λ p. record { document = p.0; leaves = p.1 }) (λ _. refl)

-- paths compare key by key, and keys byte by byte
abbrev pub path_cmp : List (List ℕ) → List (List ℕ) → Ordering
path_cmp = slice_cmp (slice_cmp nat_cmp)

-- the origin of the leaf at a path, where there is one
abbrev pub origin_at : List (List ℕ) → List (List (List ℕ) × List ℕ) → Option (List ℕ)
origin_at path leaves = lookup (is_at (path_cmp path)) leaves
