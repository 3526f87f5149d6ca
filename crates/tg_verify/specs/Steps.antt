-- How a block is opened at its place: it is checked and opened, what comes up to the next place is gathered and counted,
-- and what it says is put.
use Rattle.std.specs.List.{flat_map}
use Rattle.std.specs.Prelude.{Bool, Contains, Err, List, None, Ok, Option, Result, Some, [], false, length, true, ⊤, ℕ}
use Rattle.std.specs.Prelude.{◌++◌, ◌+◌, ◌<◌, ◌∷◌, ◌≡◌, ◌⊎◌}
use Rattle.tg_cid.specs.Cid.{CidParts}
use Rattle.tg_listing.specs.Listings.{line_of, named_entry}
use Rattle.tg_listing.specs.declared.fault.ListingFault.TheVariants as listings
use Rattle.tg_listing.specs.declared.fault.ListingFault.{ListingFault}
use Rattle.tg_listing.specs.declared.line.ListingLine.{ListingLine}
use Rattle.tg_model.specs.Counts.{met_line}
use Rattle.tg_model.specs.Dag.{Section}
use Rattle.tg_model.specs.LimitNumbers.{AreWithin, LimitNumbers, number_of, standard}
use Rattle.tg_model.specs.Placed.{StandsForKind}
use Rattle.tg_model.specs.Queries.{QueryParts}
use Rattle.tg_model.specs.Traversal.{ListedEntry}
use Rattle.tg_model.specs.declared.kinds.Entry.{Entry}
use Rattle.tg_model.specs.declared.kinds.Kind.{Kind}
use Rattle.tg_model.specs.declared.limits.LimitKind.TheVariants as kinds
use Rattle.tg_model.specs.declared.limits.LimitKind.{LimitKind}
use Rattle.tg_model.specs.declared.placed.PlacedKind.{PlacedKind}
use Rattle.tg_model.specs.declared.queries.Scope.TheVariants as scopes
use Rattle.tg_model.specs.declared.queries.Scope.{Scope}
use Rattle.tg_streams.specs.Streams.{Output, OutputQuiet, OutputRose, Put, PutFront}
use Rattle.tg_traversal.specs.Left.{WantedAt, tasks_left}
use Rattle.tg_traversal.specs.Places.{is_terminal}
use Rattle.tg_traversal.specs.declared.position.Miss.TheVariants as misses
use Rattle.tg_traversal.specs.declared.position.Miss.{Miss as FrameMiss}
use Rattle.tg_model_laws.specs.Tasks.{Miss, Task, entries_now, no_directory, no_entry, stop_at, tasks_then, text_now}
use Rattle.tg_verify.specs.Counting.{AreUnpassed, HasMet, IsCountedOn, IsFirstPassed, numbers_of}
use Rattle.tg_verify.specs.Opening.{PassesAs, tasks_behind, text_of}
use Rattle.tg_verify.specs.Refusals.{HasReceiptCause, IsBadBlock, IsMissized, IsTooDeep, IsWantedBlock}
use Rattle.tg_verify.specs.State.{OpenerState, listed_lines, told}
use Rattle.tg_verify.specs.Terminals.{terminal_behind}
use Rattle.tg_verify.specs.declared.counts.Counts.{Counts}
use Rattle.tg_verify.specs.declared.counts.Source.TheVariants as sources
use Rattle.tg_verify.specs.declared.counts.Source.{Source}
use Rattle.tg_verify.specs.declared.fault.Refusal.TheVariants as refusals
use Rattle.tg_verify.specs.declared.fault.Refusal.{Refusal}
use Rattle.tg_verify.specs.declared.terminal.Terminal.{Terminal}

-- the section with this CID and block
abbrev pub section_with : CidParts → List ℕ → Section
section_with cid block = record { cid = cid; block = block }

-- ---- the checks

-- the section is the wanted one, or why it isn't
abbrev pub IsReceivedAt : LimitNumbers → WantedAt → Section → Result ⊤ Refusal → Type 0
IsReceivedAt limits at section (Ok done) = IsWantedBlock limits at section
IsReceivedAt limits at section (Err fault) = HasReceiptCause limits at section fault

-- what it was read as stands for the kind
abbrev pub StandsForRead : List ℕ → Option PlacedKind → Option Kind → Type 0
StandsForRead block None None = ⊤
StandsForRead block (Some found) (Some kind) = StandsForKind block found kind
StandsForRead block found kind = ⊥

pub record IsPassing (q : QueryParts) (limits : LimitNumbers) (at : WantedAt) (section : Section) (kind : Option Kind) (found : Option PlacedKind) : Type 0 where
  pub passes : PassesAs q limits at section kind
  pub stands : StandsForRead section.block found kind

-- why a block isn't opened at its place: it lies too deep, has no kind, or one that can't stand there, or a size that is
-- told of it isn't its own
abbrev pub HasCheckCause : QueryParts → LimitNumbers → WantedAt → Section → Refusal → Type 0
HasCheckCause q limits at section (refusals.Limit kinds.Depth number) = IsTooDeep limits at number
HasCheckCause q limits at section (refusals.BadBlock cid fault) =
    (cid ≡ section.cid) × IsBadBlock q limits at section fault
HasCheckCause q limits at section (refusals.BadSize declared actual) =
    IsMissized q limits at section (record { declared = declared; actual = actual })
HasCheckCause q limits at section refusals.OutOfMemory = ⊤
HasCheckCause q limits at section other = ⊥

-- how the checks end at a place
abbrev pub IsCheckedAt : QueryParts → LimitNumbers → WantedAt → Section → Result (Option PlacedKind) Refusal → Type 0
IsCheckedAt q limits at section (Ok found) = (kind : Option Kind) × IsPassing q limits at section kind found
IsCheckedAt q limits at section (Err fault) = HasCheckCause q limits at section fault

-- the place is wanted, and the section has its CID, and passes there
pub record IsPassingHere (state : OpenerState) (at : WantedAt) (section : Section) (kind : Option Kind) (found : Option PlacedKind) : Type 0 where
  pub wanted : state.left.wanted ≡ Some at
  pub same : section.cid ≡ at.cid
  pub passing : IsPassing state.left.query state.limits at section kind found

-- all that is left behind the block
abbrev pub behind : OpenerState → WantedAt → Section → Option Kind → List (Task CidParts)
behind state at section kind = tasks_behind state.left.query at section kind ++ state.left.later

-- the block's text is told, and it is opened; or memory was wanted
pub record IsOpenedHere (old : OpenerState) (at : WantedAt) (section : Section) (kind : Option Kind) (said : List ℕ) (new : OpenerState) : Type 0 where
  pub said_is : said ≡ text_of old.left.query at section kind
  pub left : tasks_left new.left ≡ behind old at section kind

-- ---- up to the next place

-- all that is left, as a stop or a place comes first
abbrev pub left_of : OpenerState → List (Task CidParts)
left_of state = tasks_left state.left

-- the lines of the entries that are met before the next place, of those that are kept
abbrev pub kept_now : OpenerState → List (Task CidParts) → List ListingLine
kept_now state tasks = listed_lines state.left.query.scope (entries_now tasks)

-- what comes before the next place was gathered: its text, and its entries, which are counted, and kept where they are of
-- a listing
pub record IsGathered (old : OpenerState) (before : List ℕ) (new : OpenerState) (ends : List ℕ) : Type 0 where
  pub ends_are : ends ≡ before ++ text_now (left_of old)
  pub lines : new.lines ≡ old.lines ++ kept_now old (left_of old)
  pub met : (met : List ListedEntry) → HasMet old.counts met → HasMet new.counts (met ++ entries_now (left_of old))
  pub output : new.counts.output ≡ told (old.counts.output + length (flat_map met_line (entries_now (left_of old))))
  pub seen_blocks : new.counts.seen_blocks ≡ old.counts.seen_blocks
  pub seen_bytes : new.counts.seen_bytes ≡ old.counts.seen_bytes
  pub reused : new.counts.reused ≡ old.counts.reused
  pub left : left_of new ≡ tasks_then (left_of old)
  pub last : new.left.wanted ≡ None → new.left.later ≡ []

-- a segment of the path leads nowhere before the next place
abbrev pub StopsThere : List (Task CidParts) → Miss → Type 0
StopsThere tasks miss = (more : List (Task CidParts)) × (tasks_then tasks ≡ stop_at miss ∷ more)

abbrev pub IsGatheredBy : OpenerState → List ℕ → OpenerState → List ℕ → Result ⊤ Refusal → Type 0
IsGatheredBy old before new ends (Ok done) = IsGathered old before new ends
IsGatheredBy old before new ends (Err (refusals.NotThere segment)) = StopsThere (left_of old) (no_entry segment)
IsGatheredBy old before new ends (Err (refusals.NotFolder segment)) = StopsThere (left_of old) (no_directory segment)
IsGatheredBy old before new ends (Err refusals.OutOfMemory) = ⊤
IsGatheredBy old before new ends (Err other) = ⊥

-- one of what comes before the next place was gathered, and no place passed
pub record IsNearer (old : OpenerState) (before : List ℕ) (new : OpenerState) (ends : List ℕ) : Type 0 where
  pub text : List ℕ
  pub ends_are : ends ≡ before ++ text
  pub text_is : text_now (left_of old) ≡ text ++ text_now (left_of new)
  pub met_entries : List ListedEntry
  pub entries_are : entries_now (left_of old) ≡ met_entries ++ entries_now (left_of new)
  pub lines : new.lines ≡ old.lines ++ listed_lines old.left.query.scope met_entries
  pub met : (met : List ListedEntry) → HasMet old.counts met → HasMet new.counts (met ++ met_entries)
  pub output : new.counts.output ≡ told (old.counts.output + length (flat_map met_line met_entries))
  pub seen_blocks : new.counts.seen_blocks ≡ old.counts.seen_blocks
  pub seen_bytes : new.counts.seen_bytes ≡ old.counts.seen_bytes
  pub reused : new.counts.reused ≡ old.counts.reused
  pub then_is : tasks_then (left_of new) ≡ tasks_then (left_of old)

-- the next of it was gathered, or none is left before the next place
abbrev pub IsAdvanced : OpenerState → List ℕ → OpenerState → List ℕ → Result Bool Refusal → Type 0
IsAdvanced old before new ends (Ok true) =
    IsNearer old before new ends × (length (left_of new) < length (left_of old))
IsAdvanced old before new ends (Ok false) = IsGathered old before new ends
IsAdvanced old before new ends (Err fault) = IsGatheredBy old before new ends (Err fault)

-- the line of an entry that comes is kept where it is of a listing
abbrev pub listed_entry : Scope → Entry → List ListingLine
listed_entry scopes.Block entry = []
listed_entry scopes.Entity entry = line_of (named_entry entry) ∷ []
listed_entry scopes.All entry = []

-- the entry was counted, and kept where it is of a listing
pub record IsMetAt (old : OpenerState) (m : ListedEntry) (entry : Entry) (new : OpenerState) : Type 0 where
  pub left : new.left ≡ old.left
  pub lines : new.lines ≡ old.lines ++ listed_entry old.left.query.scope entry
  pub met : (met : List ListedEntry) → HasMet old.counts met → HasMet new.counts (met ++ m ∷ [])
  pub output : new.counts.output ≡ told (old.counts.output + length (met_line m))
  pub seen_blocks : new.counts.seen_blocks ≡ old.counts.seen_blocks
  pub seen_bytes : new.counts.seen_bytes ≡ old.counts.seen_bytes
  pub reused : new.counts.reused ≡ old.counts.reused

-- ---- a block at its place

-- the block was opened at its place, with all that comes up to the next one; this is said, and no limit is passed
pub record IsPlaced (old : OpenerState) (at : WantedAt) (section : Section) (source : Source) (said : List ℕ) (new : OpenerState) : Type 0 where
  pub kind : Option Kind
  pub passes : PassesAs old.left.query old.limits at section kind
  pub said_is : said ≡ text_of old.left.query at section kind ++ text_now (behind old at section kind)
  pub lines : new.lines ≡ old.lines ++ kept_now old (behind old at section kind)
  pub counted : IsCountedOn old.left.query.dups source section.block said (entries_now (behind old at section kind)) old.counts new.counts
  pub small : AreWithin standard old.limits
  pub within : AreUnpassed old.limits (numbers_of new.counts)
  pub left : left_of new ≡ tasks_then (behind old at section kind)
  pub last : new.left.wanted ≡ None → new.left.later ≡ []
  pub terminal : new.terminal ≡ terminal_behind old.terminal (is_terminal at.want) kind

-- what the path leads to is told as before, or as it is behind the block, which passes
abbrev pub IsToldBehind : OpenerState → WantedAt → Section → Option Terminal → Type 0
IsToldBehind old at section t =
    (t ≡ old.terminal)
    ⊎ ((kind : Option Kind) × PassesAs old.left.query old.limits at section kind × (t ≡ terminal_behind old.terminal (is_terminal at.want) kind))

-- a segment leads nowhere behind the block
pub record IsMissedBehind (old : OpenerState) (at : WantedAt) (section : Section) (miss : Miss) : Type 0 where
  pub kind : Option Kind
  pub passes : PassesAs old.left.query old.limits at section kind
  pub stops : StopsThere (behind old at section kind) miss

-- a limit of this kind would be passed with the block, the first of them
pub record IsOverBehind (old : OpenerState) (at : WantedAt) (section : Section) (source : Source) (limit : LimitKind) (number : ℕ) : Type 0 where
  pub kind : Option Kind
  pub passes : PassesAs old.left.query old.limits at section kind
  pub counts : Counts
  pub counted : IsCountedOn old.left.query.dups source section.block (text_of old.left.query at section kind ++ text_now (behind old at section kind))
      (entries_now (behind old at section kind)) old.counts counts
  pub no_stop : (miss : Miss) → StopsThere (behind old at section kind) miss → ⊥
  pub small : AreWithin standard old.limits
  pub number_is : number ≡ number_of limit old.limits
  pub over : IsFirstPassed old.limits (numbers_of counts) limit

-- why a block isn't opened at its place, or not with all that comes up to the next one
abbrev pub HasOpenCause : OpenerState → WantedAt → Section → Source → Refusal → Type 0
HasOpenCause old at section source (refusals.NotThere segment) = IsMissedBehind old at section (no_entry segment)
HasOpenCause old at section source (refusals.NotFolder segment) = IsMissedBehind old at section (no_directory segment)
HasOpenCause old at section source (refusals.Limit kinds.Depth number) = IsTooDeep old.limits at number
HasOpenCause old at section source (refusals.Limit limit number) = IsOverBehind old at section source limit number
HasOpenCause old at section source fault = HasCheckCause old.left.query old.limits at section fault

-- a block that is opened, and put; out failed in what it says; or it isn't opened, and nothing is put
pub record IsPutAt (old : OpenerState) (at : WantedAt) (section : Section) (source : Source) (out : Output) (new : OpenerState) : Type 0 where
  pub said : List ℕ
  pub placed : IsPlaced old at section source said new
  pub put : Put said out
  pub quiet : OutputQuiet out

-- a front of the text was put
pub record PutFrontOf (text : List ℕ) (out : Output) : Type 0 where
  pub front : List ℕ
  pub rest : List ℕ
  pub whole : text ≡ front ++ rest
  pub put : Put front out

pub record FailsAt (old : OpenerState) (at : WantedAt) (section : Section) (source : Source) (out : Output) (new : OpenerState) : Type 0 where
  pub said : List ℕ
  pub placed : IsPlaced old at section source said new
  pub front : PutFrontOf said out
  pub rose : OutputRose out

pub record IsUnopened (old : OpenerState) (at : WantedAt) (section : Section) (source : Source) (out : Output) (fault : Refusal) : Type 0 where
  pub cause : HasOpenCause old at section source fault
  pub put : Put [] out
  pub quiet : OutputQuiet out

abbrev pub IsPlacedAt : OpenerState → WantedAt → Section → Source → Output → OpenerState → Result ⊤ Refusal → Type 0
IsPlacedAt old at section source out new (Ok done) = IsPutAt old at section source out new
IsPlacedAt old at section source out new (Err refusals.SinkFault) = FailsAt old at section source out new
IsPlacedAt old at section source out new (Err fault) = IsUnopened old at section source out fault

-- ---- one of these

-- what is left, the entries and the counts may have changed
pub record IsSameOpener (old new : OpenerState) : Type 0 where
  pub query : new.left.query ≡ old.left.query
  pub limits : new.limits ≡ old.limits

-- the text was put, or out failed in it
abbrev pub PutEnds : List ℕ → Output → Result ⊤ Refusal → Type 0
PutEnds text out (Ok done) = Put text out × OutputQuiet out
PutEnds text out (Err fault) = (fault ≡ refusals.SinkFault) × PutFront text out

-- the text was put, or out failed in it; or memory was wanted, and nothing was put
abbrev pub PutOrWants : List ℕ → Output → Result ⊤ Refusal → Type 0
PutOrWants text out (Ok done) = Put text out × OutputQuiet out
PutOrWants text out (Err refusals.SinkFault) = PutFrontOf text out × OutputRose out
PutOrWants text out (Err refusals.OutOfMemory) = Put [] out × OutputQuiet out
PutOrWants text out (Err other) = ⊥

-- the refusal for a listing that isn't put to its end
abbrev pub refusal_of_listing : ListingFault → Refusal
refusal_of_listing listings.SinkFault = refusals.SinkFault
refusal_of_listing listings.OutOfMemory = refusals.OutOfMemory

-- the refusal where a segment of the path leads nowhere
abbrev pub refusal_of_miss : FrameMiss → Refusal
refusal_of_miss (misses.NoEntry segment) = refusals.NotThere segment
refusal_of_miss (misses.NoDirectory segment) = refusals.NotFolder segment

-- ---- blocks that no section brings

-- where the block comes from, by whether the CID is asked for
abbrev pub source_of : Bool → Source
source_of true = sources.Remembered
source_of false = sources.Digest

-- the block that is known for a CID: where the CID isn't asked for its digest, and else what is remembered under it; or
-- none, and a section is to bring it
abbrev pub IsKnownBlock : Bool → List (CidParts × List ℕ) → CidParts → Option (List ℕ) → Type 0
IsKnownBlock true seen cid (Some block) = Contains seen (cid, block)
IsKnownBlock true seen cid None = (block : List ℕ) → Contains seen (cid, block) → ⊥
IsKnownBlock false seen cid found = found ≡ Some cid.digest
