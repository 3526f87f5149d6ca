-- Worked values, so that a wrong definition does not check.
use Rattle.std.proofs.Common.{◌≡◌, [], ◌∷◌, Some, None, Ok, Err, refl}
use Rattle.tg_pbtable.specs.declared.fault.PbFault.TheVariants as faults
use Rattle.tg_pbtable.specs.Computed.{fields_of}
use Rattle.tg_dagpb.specs.Computed.{link_in, node_of}

-- the node of the empty directory: no link, and its data
pub directory : node_of (0x0a ∷ 0x02 ∷ 0x08 ∷ 0x01 ∷ []) ≡ Ok (record { links = []; payload = Some (0x08 ∷ 0x01 ∷ []) })
unfolding fields_of link_in node_of
directory = refl

pub nothing : node_of [] ≡ Ok (record { links = []; payload = None })
unfolding fields_of link_in node_of
nothing = refl

-- two links, one with a name and a size, and the data behind them
pub two_links : node_of (0x12 ∷ 0x08 ∷ 0x0a ∷ 0x01 ∷ 0x07 ∷ 0x12 ∷ 0x01 ∷ 0x61 ∷ 0x18 ∷ 0x05 ∷ 0x12 ∷ 0x03 ∷ 0x0a ∷ 0x01 ∷ 0x09 ∷ 0x0a ∷ 0x00 ∷ [])
    ≡ Ok (record {
      links = record { hash = 0x07 ∷ []; name = Some (0x61 ∷ []); tsize = Some 5 } ∷ record { hash = 0x09 ∷ []; name = None; tsize = None } ∷ [];
      payload = Some [];
    })
unfolding fields_of link_in node_of
two_links = refl

-- links on both sides of the data
pub around : node_of (0x12 ∷ 0x03 ∷ 0x0a ∷ 0x01 ∷ 0x09 ∷ 0x0a ∷ 0x00 ∷ 0x12 ∷ 0x03 ∷ 0x0a ∷ 0x01 ∷ 0x09 ∷ []) ≡ Err (faults.OutOfOrder 7)
unfolding fields_of link_in node_of
around = refl

-- the second link names no CID, and the third is cut short: the place is counted in the node's text, and the first is told
pub second_bad : node_of (0x12 ∷ 0x03 ∷ 0x0a ∷ 0x01 ∷ 0x09 ∷ 0x12 ∷ 0x02 ∷ 0x18 ∷ 0x05 ∷ 0x12 ∷ 0x02 ∷ 0x0a ∷ 0x05 ∷ []) ≡ Err (faults.Missing 1)
unfolding fields_of link_in node_of
second_bad = refl

pub cut_link : node_of (0x12 ∷ 0x03 ∷ 0x0a ∷ 0x01 ∷ 0x09 ∷ 0x12 ∷ 0x02 ∷ 0x0a ∷ 0x05 ∷ []) ≡ Err (faults.Short 7)
unfolding fields_of link_in node_of
cut_link = refl
