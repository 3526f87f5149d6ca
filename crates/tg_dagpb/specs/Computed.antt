-- The DAG-PB node of a text, or its first fault, as a function: what `NodeText` and `HasNodeCause` say as relations.
use Rattle.std.specs.Prelude.{ℕ, List, [], ◌∷◌, slice_range, unwrap_or, Result, Ok, Err, ◌==◌, if◌then◌else◌}
use Rattle.tg_pbtable.specs.declared.table.Field.{Field}
use Rattle.tg_pbtable.specs.declared.table.Order.TheVariants.{Ascending, Runs}
use Rattle.tg_pbtable.specs.declared.table.Value.{Value}
use Rattle.tg_pbtable.specs.declared.table.Value.TheVariants.{Number, Place}
use Rattle.tg_pbtable.specs.declared.fault.PbFault.{PbFault}
use Rattle.tg_pbtable.specs.Values.{numbers_at, bytes_at}
use Rattle.tg_pbtable.specs.Computed.{fields_of, and_then, first_of}
use Rattle.tg_dagpb.specs.declared.TheConstants.{NODE, LINK}
use Rattle.tg_dagpb.specs.declared.Link.{Link}
use Rattle.tg_dagpb.specs.declared.Node.{Node}
use Rattle.tg_pbtable.specs.Faults.{moved_by}

-- the link that the fields of a message are
abbrev pub link_parts : List ℕ → List Field → Link
link_parts text fields = record {
  hash = unwrap_or (first_of (bytes_at text 1 fields)) [];
  name = first_of (bytes_at text 2 fields);
  tsize = first_of (numbers_at 3 fields);
}

-- the link of a text
unfoldable pub link_in : List ℕ → Result Link PbFault
link_in text = and_then (fields_of LINK.now Ascending text) (λ fields. Ok (link_parts text fields))

-- the link of a text that begins at `start` of another one, in which a fault has its place
abbrev pub moved_to : ℕ → Result Link PbFault → Result Link PbFault
moved_to start (Ok link) = Ok link
moved_to start (Err fault) = Err (moved_by start fault)

abbrev pub with_link : List ℕ → Value → Result (List Link) PbFault → Result (List Link) PbFault
with_link text (Number n) others = others
with_link text (Place start end) others =
    and_then (moved_to start (link_in (slice_range text start end))) (λ link.
    and_then others (λ links.
    Ok (link ∷ links)))

-- the links of the fields of number 2, or the fault of the first that is none
abbrev pub links_in : List ℕ → List Field → Result (List Link) PbFault
links_in text [] = Ok []
links_in text (field ∷ fields) =
    if field.number == 2 then with_link text field.value (links_in text fields) else links_in text fields

abbrev pub with_links : List ℕ → List Field → Result (List Link) PbFault → Result Node PbFault
with_links text fields (Ok links) = Ok (record { links = links; payload = first_of (bytes_at text 1 fields) })
with_links text fields (Err fault) = Err fault

abbrev pub with_fields : List ℕ → Result (List Field) PbFault → Result Node PbFault
with_fields text (Ok fields) = with_links text fields (links_in text fields)
with_fields text (Err fault) = Err fault

-- the node of a text, or its first fault
unfoldable pub node_of : List ℕ → Result Node PbFault
node_of text = with_fields text (fields_of NODE.now Runs text)
