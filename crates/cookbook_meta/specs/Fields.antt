-- The fields of a manifest that tell which cookbook's version it is.
use Rattle.std.specs.Prelude.{ℕ, Bool, true, false, ◌&&◌, ◌==◌, cond, List, [], ◌∷◌, ◌++◌, Option, Some, None, Result, Ok, Err, codes, bytes_eq}
use Rattle.doc_tree.specs.Doc.{Doc, Pairs}
use Rattle.doc_tree.specs.Part.{pair_at}
use Rattle.version_rules.specs.Versions.{version_text}
use Rattle.version_rules.specs.declared.versions.Version.{Version}
use Rattle.cookbook_meta.specs.Faults.{then_do, keep_if, in_field}
use Rattle.cookbook_meta.specs.Parts.{text_of, version_of}
use Rattle.cookbook_meta.specs.declared.fault.Flaw.{Flaw}
use Rattle.cookbook_meta.specs.declared.fault.Flaw.TheVariants.{MissingField, WrongKind, NameDiffers}
use Rattle.cookbook_meta.specs.declared.fault.MetaFault.{MetaFault}

-- the name that a path gives, the version that it gives, or a text that the format states
pub data Form : Type 0 where
  named : List ℕ → Form
  released : Version → Form
  stated : List ℕ → Form

-- a field: its key, whether it must be there, and its form
pub record Row : Type 0 where
  pub key : List ℕ
  pub must : Bool
  pub form : Form

-- a field that must be there
abbrev pub must_be : List ℕ → Form → Row
must_be key form = record { key = key; must = true; form = form }

-- a field that may be missing
abbrev pub may_be : List ℕ → Form → Row
may_be key form = record { key = key; must = false; form = form }

-- the versions have equal parts
abbrev pub same_version : Version → Version → Bool
same_version v w = v.major == w.major && v.minor == w.minor && v.patch == w.patch

-- the document is this text, and another text has this flaw
abbrev pub is_text : List ℕ → Flaw → Doc → Result (Unit {0}) Flaw
is_text text other d = then_do (text_of d) (λ sent. keep_if (bytes_eq sent text) tt other)

-- the document has the form, or the flaw of one that hasn't
abbrev pub has_form : Form → Doc → Result (Unit {0}) Flaw
has_form (named name) d = is_text name NameDiffers d
has_form (released version) d = then_do (version_of d) (λ sent. keep_if (same_version sent version) tt NameDiffers)
has_form (stated text) d = is_text text WrongKind d

-- the field is as its row asks, or its flaw
abbrev pub is_as_asked : Row → Option Doc → Result (Unit {0}) Flaw
is_as_asked row None = cond row.must (Err MissingField) (Ok tt)
is_as_asked row (Some d) = has_form row.form d

-- each field is as its row asks, or the first that isn't
abbrev pub are_as_asked : List Row → Pairs → Result (Unit {0}) MetaFault
are_as_asked [] body = Ok tt
are_as_asked (row ∷ rows) body = then_do (in_field row.key (is_as_asked row (pair_at row.key body))) (λ done. are_as_asked rows body)

-- a cookbook's name and version, with a dash between them
abbrev pub release_name : List ℕ → Version → List ℕ
release_name name version = name ++ 45 ∷ version_text version

-- the fields whose texts the format states
abbrev pub stated_rows : List Row
stated_rows =
    may_be (codes "chef_type") (stated (codes "cookbook_version"))
    ∷ may_be (codes "json_class") (stated (codes "Chef::CookbookVersion"))
    ∷ []

-- the fields that tell which cookbook's version a manifest is, in the order in which they are looked at
abbrev pub rows : List ℕ → List ℕ → Version → List Row
rows name release version =
    may_be (codes "cookbook_name") (named name)
    ∷ may_be (codes "name") (named release)
    ∷ must_be (codes "version") (released version)
    ∷ stated_rows

-- those fields under the path's name and version
abbrev pub told_by : List ℕ → Version → List Row
told_by name version = rows name (release_name name version) version

-- the field that tells which artifact it is
abbrev pub named_rows : List ℕ → List Row
named_rows name = may_be (codes "name") (named name) ∷ []
