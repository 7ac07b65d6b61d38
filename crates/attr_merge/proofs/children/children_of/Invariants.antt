use Rattle.std.proofs.Common.{◌≡◌, ◌++◌, List, ℕ, drop}
use Rattle.attr_merge.specs.Children.{children}
use Rattle.attr_merge.specs.Parts.{gathered_in, pieces_of}
use Rattle.attr_merge.proofs.children.children_of.Given as goal

-- what is gathered so far, and what the parts that are left have
abbrev pub invariant-loop-part : goal.invariant-loop-part
invariant-loop-part l = (key : List ℕ) →
    gathered_in l.children.entries key ++ children key (pieces_of (drop l.part-index l.parts)) ≡ children key (pieces_of l.parts)
