-- The lines of a directory's listing, and what is put of one (this project's own text).
use Rattle.std.specs.List.{flat_map}
use Rattle.std.specs.Prelude.{List, [], map, ℕ, ◌++◌, ◌≡◌}
use Rattle.tg_listing.specs.declared.fault.ListingFault.{ListingFault}
use Rattle.tg_listing.specs.declared.fault.ListingFault.TheVariants.{OutOfMemory, SinkFault}
use Rattle.tg_listing.specs.declared.line.ListingLine.{ListingLine}
use Rattle.tg_model.specs.Texts.{Named, listing_line}
use Rattle.tg_model.specs.declared.kinds.Entry.{Entry}
use Rattle.tg_streams.specs.Streams.{Output, OutputQuiet, OutputRose, Put, PutFront}

-- an entry as a listing has it
abbrev pub named_entry : Entry → Named
named_entry entry = record { name = entry.name; cid = entry.cid }

-- the line of an entry, with the name that orders it
abbrev pub line_of : Named → ListingLine
line_of entry = record { name = entry.name; text = listing_line entry }

-- the text of lines in their order
abbrev pub lines_text : List ListingLine → List ℕ
lines_text lines = flat_map (λ line. line.text) lines

-- the text was put but for this rest, and no fault of out was counted
pub record PutBut (rest text : List ℕ) (out : Output) : Type 0 where
  pub front : List ℕ
  pub whole : text ≡ front ++ rest
  pub put : Put front out
  pub quiet : OutputQuiet out

-- a fault of out comes where one was counted, and nowhere else
abbrev pub HasListingCause : ListingFault → Output → Type 0
HasListingCause SinkFault out = OutputRose out
HasListingCause OutOfMemory out = OutputQuiet out

-- a listing isn't put to its end: out failed and counted it; or memory was wanted, and nothing was put
abbrev pub StopsListing : ListingFault → List ℕ → Output → Type 0
StopsListing SinkFault text out = PutFront text out
StopsListing OutOfMemory text out = Put [] out × OutputQuiet out
