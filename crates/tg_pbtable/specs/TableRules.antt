-- The rules of a table by their places, where the number and the wire type compute, and the wire type of bytes.
use Rattle.std.specs.Prelude.{◌≡◌, ℕ, ◌<◌, List, length}
use Rattle.std.proofs.Common.{get_or, refl}
use Rattle.std.proofs.lemmas.List.Elements.{Contains-get_or}
use Rattle.tg_pbtable.specs.declared.table.Rule.{Rule}
use Rattle.tg_pbtable.specs.declared.table.Times.TheVariants.{One}
use Rattle.tg_pbtable.specs.declared.table.Wire.{Wire}
use Rattle.tg_pbtable.specs.declared.table.Wire.TheVariants.{Varint, Bytes, Fixed32}
use Rattle.tg_pbtable.specs.declared.table.Value.TheVariants.{Place}
use Rattle.tg_pbtable.specs.Message.{HasRule, IsOfWire}

-- the rule that `get_or` gives of no place
abbrev pub any_rule : Rule
any_rule = record { number = 1; wire = Varint; times = One }

pub rule_at : (rules : List Rule) (i : ℕ) → i < length rules
    → HasRule rules (get_or rules i any_rule).number (get_or rules i any_rule).wire
rule_at rules i l = record { rule = get_or rules i any_rule; among = Contains-get_or rules i any_rule l; number_is = refl; wire_is = refl }

-- a place is of the wire type of bytes alone
pub place_wire : (wire : Wire) (start end : ℕ) → IsOfWire wire (Place start end) → wire ≡ Bytes
place_wire Varint start end h = absurd h
place_wire Bytes start end h = refl
place_wire Fixed32 start end h = absurd h
