-- Cursors over the links of a block: a cursor stands behind some of the fields of a node, and so between two links.
use Rattle.std.specs.Prelude.{◌≡◌, ℕ, List, Option, Some, None}
use Rattle.std.specs.Borrow.{Bor}
use Rattle.tg_pbtable.specs.declared.table.Field.{Field}
use Rattle.tg_pbtable.specs.declared.table.Order.TheVariants.{Runs}
use Rattle.tg_pbtable.specs.declared.table.Place.{Place}
use Rattle.tg_pbtable.specs.Cursor.{StandsBetween}
use Rattle.tg_pbtable.specs.Place.{IsInside, AreInside, bytes_of, placed_bytes}
use Rattle.tg_pbtable.specs.Values.{bytes_at}
use Rattle.tg_dagpb.specs.declared.TheConstants.{NODE}
use Rattle.tg_dagpb.specs.declared.Link.{Link}
use Rattle.tg_dagpb.specs.declared.LinkSpan.{LinkSpan}
use Rattle.tg_dagpb.specs.declared.LinkPlaces.{LinkPlaces}
use Rattle.tg_dagpb.specs.declared.Node.{Node}
use Rattle.tg_dagpb.specs.Node.{LinkTexts, NodeText}

-- at `at` these links of the node are behind, and those are to come
pub record IsBetween (text : List ℕ) (at : ℕ) (behind ahead : List Link) : Type 0 where
  pub front : List Field
  pub rest : List Field
  pub fields : StandsBetween NODE.now Runs text at front rest
  pub links_behind : LinkTexts behind (bytes_at text 2 front)
  pub links_ahead : LinkTexts ahead (bytes_at text 2 rest)

-- a cursor of a text: 0, or one that stands behind a link
abbrev pub IsCursor : List ℕ → ℕ → Type 0
IsCursor text at = (behind : List Link) × (ahead : List Link) × IsBetween text at behind ahead

-- the bytes that a slice stands for, where there is one
abbrev pub held : Option (Bor (List ℕ)) → Option (List ℕ)
held None = None
held (Some bytes) = Some bytes.now

-- the link of a span
abbrev pub link_of : LinkSpan → Link
link_of span = record { hash = span.hash.now; name = held span.name; tsize = span.tsize }

-- the link whose parts lie at the places
abbrev pub placed_link : List ℕ → LinkPlaces → Link
placed_link text places =
    record { hash = bytes_of text places.hash; name = placed_bytes text places.name; tsize = places.tsize }

-- the places lie inside the text
pub record LieInside (text : List ℕ) (places : LinkPlaces) : Type 0 where
  pub hash : IsInside text places.hash
  pub name : AreInside text places.name

-- the text is a node's, and its data lies at the place
pub record HasPayloadAt (text : List ℕ) (place : Option Place) : Type 0 where
  pub node : Node
  pub is_text : NodeText node text
  pub payload_is : placed_bytes text place ≡ node.payload
