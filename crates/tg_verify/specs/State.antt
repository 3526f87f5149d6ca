-- What contracts see of a verifier.
use Rattle.std.specs.Prelude.{List, None, Option, Some, [], length, map, min, ℕ, ◌-◌, ◌^◌, ◌∷◌}
use Rattle.tg_cid.specs.Cid.{CidParts}
use Rattle.tg_traversal.specs.Left.{LeftState, WantedAt}
use Rattle.tg_listing.specs.Listings.{line_of}
use Rattle.tg_listing.specs.declared.line.ListingLine.{ListingLine}
use Rattle.tg_model.specs.Dag.{Section}
use Rattle.tg_model.specs.LimitNumbers.{LimitNumbers}
use Rattle.tg_model.specs.Texts.{Named}
use Rattle.tg_model.specs.Traversal.{ListedEntry, named_met}
use Rattle.tg_model.specs.declared.queries.Scope.TheVariants as scopes
use Rattle.tg_model.specs.declared.queries.Scope.{Scope}
use Rattle.tg_verify.specs.declared.counts.Counts.{Counts}
use Rattle.tg_verify.specs.declared.fault.Refusal.{Refusal}
use Rattle.tg_verify.specs.declared.terminal.Terminal.{Terminal}

-- what is left of the query's traversal; the limits; the lines of the entries of the directory that is listed, so far;
-- what is counted; and what the path leads to, where it is told
pub record OpenerState : Type 0 where
  pub left : LeftState
  pub limits : LimitNumbers
  pub lines : List ListingLine
  pub counts : Counts
  pub terminal : Option Terminal

-- with it the blocks that are remembered, each under its CID; how many sections were taken; and the refusal after which
-- nothing is taken
pub record VerifierState : Type 0 where
  pub left : LeftState
  pub limits : LimitNumbers
  pub lines : List ListingLine
  pub counts : Counts
  pub terminal : Option Terminal
  pub seen : List (CidParts × List ℕ)
  pub taken : ℕ
  pub refused : Option Refusal

-- a number as it is told, which stands still at 2 ^ 64 - 1
abbrev pub told : ℕ → ℕ
told n = min n (2 ^ 64 - 1)

-- how many sections there are, as a verifier shows it
abbrev pub count_of : List Section → ℕ
count_of sections = told (length sections)

-- the CID of the block that must come next: none once all came, and none after a refusal
abbrev pub cid_wanted : Option WantedAt → Option CidParts
cid_wanted None = None
cid_wanted (Some at) = Some at.cid

abbrev pub next_cid : Option Refusal → Option WantedAt → Option CidParts
next_cid None wanted = cid_wanted wanted
next_cid (Some refusal) wanted = None

-- how many bytes were put, of those that are counted: none while the lines of a listing are kept, which is put once it is whole
abbrev pub written_count : List ListingLine → ℕ → ℕ
written_count [] output = output
written_count (line ∷ lines) output = 0

-- of the entries that were met those of a listing, of which a verifier keeps the lines
abbrev pub listed_of : Scope → List ListedEntry → List Named
listed_of scopes.Block met = []
listed_of scopes.Entity met = map named_met met
listed_of scopes.All met = []

abbrev pub listed_lines : Scope → List ListedEntry → List ListingLine
listed_lines scope met = map line_of (listed_of scope met)
