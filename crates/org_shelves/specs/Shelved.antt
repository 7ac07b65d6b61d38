-- What an organisation keeps on shelves.
use Rattle.std.specs.Prelude.{ℕ, List, refl}
use Rattle.std.specs.Coded.{Coded, code_by, coded_list, coded_ℕ, coded×}
use Rattle.std.specs.FinMap as finite
use Rattle.doc_tree.specs.Text.{text_cmp}
use Rattle.doc_tree.specs.Doc.{Doc}
use Rattle.doc_tree.specs.DocCode.{doc_code}
use Rattle.shelves.specs.Shelves.{Store, store_code}
use Rattle.version_rules.specs.Order.{version_cmp}
use Rattle.version_rules.specs.declared.versions.Version.{Version}

-- the documents of cookbook versions, by the cookbook's name and then by the version
abbrev pub Cookbooks : Type 0
Cookbooks = Store version_cmp Doc

-- the documents of artifacts, by the cookbook's name and then by the identifier
abbrev pub Artifacts : Type 0
Artifacts = Store text_cmp Doc

-- the documents of locks, by the policy's name and then by the revision
abbrev pub Policies : Type 0
Policies = Store text_cmp Doc

-- the policies that a group assigns, each with its revision
abbrev pub Assigned : Type 0
Assigned = finite.FinMap text_cmp (List ℕ)

-- policy groups, by their names
abbrev pub PolicyGroups : Type 0
PolicyGroups = finite.FinMap text_cmp Assigned

-- the versions of an organisation's cookbooks, its artifacts, the revisions of its policies, and its policy groups
pub record Shelved : Type 0 where
  pub cookbooks : Cookbooks
  pub artifacts : Artifacts
  pub policies : Policies
  pub groups : PolicyGroups

-- nothing on any shelf
abbrev pub nothing : Shelved
nothing = record { cookbooks = finite.empty; artifacts = finite.empty; policies = finite.empty; groups = finite.empty }

-- other versions of cookbooks
abbrev pub with_cookbooks : Cookbooks → Shelved → Shelved
with_cookbooks cookbooks s = record { cookbooks = cookbooks; artifacts = s.artifacts; policies = s.policies; groups = s.groups }

-- other artifacts
abbrev pub with_artifacts : Artifacts → Shelved → Shelved
with_artifacts artifacts s = record { cookbooks = s.cookbooks; artifacts = artifacts; policies = s.policies; groups = s.groups }

-- other revisions of policies
abbrev pub with_policies : Policies → Shelved → Shelved
with_policies policies s = record { cookbooks = s.cookbooks; artifacts = s.artifacts; policies = policies; groups = s.groups }

-- other policy groups
abbrev pub with_groups : PolicyGroups → Shelved → Shelved
with_groups groups s = record { cookbooks = s.cookbooks; artifacts = s.artifacts; policies = s.policies; groups = groups }

-- what is kept on shelves, and how many more of each fit without memory
pub record Kept : Type 0 where
  pub shelved : Shelved
  pub spare : ℕ

-- how the logic stores a version
abbrev pub version_code : Coded Version
version_code = code_by (ℕ × (ℕ × ℕ)) (coded× coded_ℕ (coded× coded_ℕ coded_ℕ)) (λ v. (v.major, (v.minor, v.patch))) (λ p. record { major = p.0; minor = p.1.0; patch = p.1.1 }) (λ _. refl)

-- how it stores the assignments of a group
abbrev pub assigned_code : Coded Assigned
assigned_code = finite.code (coded_list coded_ℕ) (coded_list coded_ℕ)

-- how it stores what is kept
abbrev pub kept_code : Coded Kept
kept_code =
    code_by (Cookbooks × (Artifacts × (Policies × (PolicyGroups × ℕ))))
    (coded× (store_code version_code doc_code) (coded× (store_code (coded_list coded_ℕ) doc_code) (coded× (store_code (coded_list coded_ℕ) doc_code) (coded× (finite.code (coded_list coded_ℕ) assigned_code) coded_ℕ))))
    (λ k. (k.shelved.cookbooks, (k.shelved.artifacts, (k.shelved.policies, (k.shelved.groups, k.spare)))))
    (λ p. record { shelved = record { cookbooks = p.0; artifacts = p.1.0; policies = p.1.1.0; groups = p.1.1.1.0 }; spare = p.1.1.1.1 }) (λ _. refl)
