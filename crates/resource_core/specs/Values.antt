-- The values of a resource's properties: which have their form, and which name an attribute that isn't there.
use Rattle.std.specs.Prelude.{ℕ, Bool, true, false, not, List, [], ◌∷◌, Option, Some, None, is_some, bytes_eq, codes, if◌then◌else◌}
use Rattle.std.specs.Option.{option_or}
use Rattle.doc_tree.specs.Doc.{Doc, null, boolean, whole, words, list, dict, Pairs}
use Rattle.doc_tree.specs.Part.{pair_at}
use Rattle.resource_core.specs.Entries.{entries_of}
use Rattle.resource_core.specs.Modes.{mode_of}
use Rattle.resource_core.specs.Templates.{is_formed, missing_of, stated, stated_of}
use Rattle.resource_core.specs.Types.{Property}
use Rattle.resource_core.specs.declared.types.Form.{Form}
use Rattle.resource_core.specs.declared.types.Form.TheVariants as form
use Rattle.resource_core.specs.declared.types.Presence.{Presence}
use Rattle.resource_core.specs.declared.types.Presence.TheVariants.{Optional, Needed, NeededToCreate}

-- the truth value of this word
abbrev pub truth_named : List ℕ → Option Bool
truth_named word = if bytes_eq word (codes "yes") then Some true else if bytes_eq word (codes "no") then Some false else None

-- the truth value that a document states
abbrev pub truth_of : Doc → Option Bool
truth_of null = None
truth_of (boolean b) = Some b
truth_of (whole z) = None
truth_of (words word) = truth_named word
truth_of (list ds) = None
truth_of (dict ps) = None

-- the document is the text `symbolic`
abbrev pub is_symbolic : Doc → Bool
is_symbolic null = false
is_symbolic (boolean b) = false
is_symbolic (whole z) = false
is_symbolic (words word) = bytes_eq word (codes "symbolic")
is_symbolic (list ds) = false
is_symbolic (dict ps) = false

-- the document has the form
abbrev pub has_form : Doc → Form → Doc → Bool
has_form attributes form.Words d = is_formed (stated_of attributes d)
has_form attributes form.Mode d = is_some (mode_of d)
has_form attributes form.Truth d = is_some (truth_of d)
has_form attributes form.Symbolic d = is_symbolic d
has_form attributes form.Entries d = is_some (entries_of d)

-- the property has to be there, in a resource that is to create or not
abbrev pub is_needed : Bool → Presence → Bool
is_needed creates Optional = false
is_needed creates Needed = true
is_needed creates NeededToCreate = creates

-- what is stated for a property has its form, or isn't there and needn't be
abbrev pub fits : Doc → Bool → Property → Option Doc → Bool
fits attributes creates p None = not (is_needed creates p.presence)
fits attributes creates p (Some d) = has_form attributes p.form d

-- the first of these properties whose value doesn't fit
abbrev pub first_bad : Doc → Bool → Pairs → List Property → Option (List ℕ)
first_bad attributes creates ps [] = None
first_bad attributes creates ps (p ∷ more) = if fits attributes creates p (pair_at p.name ps) then first_bad attributes creates ps more else Some p.name

-- the attribute's path, where a property of this form names one that isn't there
abbrev pub missing_in : Doc → Form → Option Doc → Option (List (List ℕ))
missing_in attributes form.Words found = missing_of (stated attributes found)
missing_in attributes form.Mode found = None
missing_in attributes form.Truth found = None
missing_in attributes form.Symbolic found = None
missing_in attributes form.Entries found = None

-- the first path among these properties that has no text, whole number or truth value
abbrev pub first_missing : Doc → Pairs → List Property → Option (List (List ℕ))
first_missing attributes ps [] = None
first_missing attributes ps (p ∷ more) = option_or (missing_in attributes p.form (pair_at p.name ps)) (first_missing attributes ps more)
