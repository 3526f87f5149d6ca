use Rattle.std.specs.Prelude.{All, string_bytes}
use Rattle.std.specs.List.{AllZip}
use Rattle.tg_files.specs.System.{IsEntryOf}
use Rattle.tg_files.specs.TempNames.{BeginsWith}
use Rattle.tg_files.proofs.host_folder.entries_of.Given as goal

-- no item is left out by its name, and each says what was found at the path in its place
abbrev pub invariant-loop-entry : goal.invariant-loop-entry
invariant-loop-entry g l =
    All (λ item. BeginsWith l.left_out item.name → ⊥) l.listing.items
    × AllZip (λ item found. IsEntryOf l.path item (string_bytes found.0) found.1) l.listing.items l.listing.found.items
