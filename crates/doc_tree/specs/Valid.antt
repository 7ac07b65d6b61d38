-- The documents that a tree can be.
use Rattle.std.specs.Prelude.{ℕ, List, ⊤, IsUtf8}
use Rattle.std.specs.Cmp.Lexicographic.{slice_cmp}
use Rattle.std.specs.List.Sorted.{IsStrictlySortedBy}
use Rattle.std.specs.Map.{keys_of}
use Rattle.std.specs.Ordering.{nat_cmp}
use Rattle.doc_tree.specs.Doc.{Doc, null, boolean, whole, words, list, dict, Docs, no_docs, then_doc, Pairs, no_pairs, then_pair, pairs_list}
use Rattle.doc_tree.specs.Number.{IsWhole}

-- each of these keys is below those after it, byte by byte
abbrev pub InOrder : List (List ℕ) → Type 0
InOrder = IsStrictlySortedBy (slice_cmp nat_cmp)

abbrev mutual
  -- its numbers are whole, its texts are UTF-8, and the keys of each of its dicts come once and in order
  pub IsDoc : Doc → Type 0
  IsDoc null = ⊤
  IsDoc (boolean b) = ⊤
  IsDoc (whole z) = IsWhole z
  IsDoc (words s) = IsUtf8 s
  IsDoc (list ds) = AreDocs ds
  IsDoc (dict ps) = ArePairs ps × InOrder (keys_of (pairs_list ps))

  -- each of these is such a document
  pub AreDocs : Docs → Type 0
  AreDocs no_docs = ⊤
  AreDocs (then_doc d ds) = IsDoc d × AreDocs ds

  -- each of these keys is UTF-8, and each document such a one
  pub ArePairs : Pairs → Type 0
  ArePairs no_pairs = ⊤
  ArePairs (then_pair k d ps) = IsUtf8 k × IsDoc d × ArePairs ps
