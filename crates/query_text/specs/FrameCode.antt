-- How the logic stores an open group: as its fields.
use Rattle.std.specs.Prelude.{ℕ, List, refl}
use Rattle.std.specs.Coded.{Coded, code_by, coded_ℕ, coded_list, coded×}
use Rattle.query_text.specs.Query.{Ands, Item}
use Rattle.query_text.specs.QueryCode.{ands_code, item_code}
use Rattle.query_text.specs.Frames.{Frame}

-- the code of an open group
abbrev pub frame_code : Coded Frame
frame_code =
    code_by (ℕ × (List Ands × (List Item × (ℕ × ℕ))))
    (coded× coded_ℕ (coded× (coded_list ands_code) (coded× (coded_list item_code) (coded× coded_ℕ coded_ℕ))))
    (λ f. (f.room, (f.ors, (f.ands, (f.nots, f.left)))))
    (λ p. record { room = p.0; ors = p.1.0; ands = p.1.1.0; nots = p.1.1.1.0; left = p.1.1.1.1 })
    (λ _. refl)
