-- What stands once a block was opened at its place, or wasn't.
use Rattle.std.proofs.Common.{[], Err, length, true, ◌≤◌, List, None, Option, Some, ap, append-nil, append_assoc, map, refl, subst, sym, ℕ, ◌++◌, ◌∙◌, ◌∷◌, ◌≡◌}
use Rattle.std.proofs.lemmas.List.{map-append}
use Rattle.std.specs.Bool.{⊤}
use Rattle.std.specs.Prelude.{IfSome}
use Rattle.tg_cid.specs.Cid.{CidParts}
use Rattle.tg_listing.specs.Listings.{line_of}
use Rattle.tg_listing.specs.declared.line.ListingLine.{ListingLine}
use Rattle.tg_model.specs.Dag.{Section}
use Rattle.tg_model.specs.LimitNumbers.{LimitNumbers}
use Rattle.tg_model.specs.Queries.{QueryParts}
use Rattle.tg_model.specs.Traversal.{ListedEntry, is_sent_behind, named_met, sent}
use Rattle.tg_model.specs.declared.kinds.Kind.{Kind}
use Rattle.tg_model.specs.declared.limits.LimitKind.TheVariants as kinds
use Rattle.tg_model.specs.declared.limits.LimitKind.{LimitKind}
use Rattle.tg_model.specs.declared.queries.Scope.{Scope}
use Rattle.tg_model.specs.declared.queries.Scope.TheVariants as scopes
use Rattle.tg_model_laws.specs.SentSections.{taken_as}
use Rattle.tg_streams.specs.Streams.{Output, Put}
use Rattle.tg_traversal.specs.FaultLaws.{fault_same}
use Rattle.tg_traversal.specs.Left.{WantedAt, tasks_left}
use Rattle.tg_traversal.specs.Places.{is_terminal}
use Rattle.tg_model_laws.specs.TakenBlocks.{IsReadAt, opened_by}
use Rattle.tg_model_laws.specs.Stages.{Given, with_place}
use Rattle.tg_model_laws.specs.Tasks.{Miss, Task, entries_now, no_directory, no_entry, open_block, position_of, tasks_then, text_now}
use Rattle.tg_model_laws.specs.Verified.{IsKnown, Verified, VerifiedLaws, listing_at_end}
use Rattle.tg_verify.proofs.Counting.{IsFrom, counted_on, is_passed, is_unpassed}
use Rattle.tg_verify.proofs.Leading.{led_behind, next_terminal}
use Rattle.tg_verify.proofs.Misread.{Computes}
use Rattle.tg_verify.specs.Counting.{AreUnpassed, HasCounted, counts_given}
use Rattle.tg_verify.specs.History.{HasPutCause, IsPlaceFault}
use Rattle.tg_verify.specs.Opening.{IsNamed, PassesAs, given_with, tasks_behind, text_of}
use Rattle.tg_verify.specs.Refusals.{HasPlaceCause, IsOver}
use Rattle.tg_verify.proofs.Reaching.{never_stops, reached_next}
use Rattle.tg_verify.specs.Reached.{IsOpenedAt, IsReached, stage_of}
use Rattle.tg_verify.specs.State.{OpenerState, listed_lines, listed_of}
use Rattle.tg_verify.specs.Steps.{HasOpenCause, IsMissedBehind, IsOverBehind, IsPlaced, IsPlacedAt, IsToldBehind, IsUnopened, behind}
use Rattle.tg_verify.specs.Taken.{IsFrontWritten, IsNowhere, most_text}
use Rattle.tg_verify.specs.Terminals.{IsTerminalAt, LeadsTo, terminal_behind}
use Rattle.tg_verify.specs.declared.counts.Source.{Source}
use Rattle.tg_verify.specs.declared.fault.Refusal.{Refusal}
use Rattle.tg_verify.specs.declared.fault.Refusal.TheVariants as refusals
use Rattle.tg_verify.specs.declared.terminal.Terminal.{Terminal}

-- ---- names and texts

listed_both : (scope : Scope) (u w : List ListedEntry) → listed_of scope (u ++ w) ≡ listed_of scope u ++ listed_of scope w
listed_both scopes.Block u w = refl
listed_both scopes.Entity u w = map-append named_met u w
listed_both scopes.All u w = refl

lines_both : (scope : Scope) (u w : List ListedEntry) → listed_lines scope (u ++ w) ≡ listed_lines scope u ++ listed_lines scope w
lines_both scope u w = ap (map line_of) (listed_both scope u w) ∙ map-append line_of (listed_of scope u) (listed_of scope w)

-- what is at most written begins with the text that was given
pub most_more : (q : QueryParts) (given : Given) (tasks : List (Task CidParts)) → (more : List ℕ) × (most_text q given tasks ≡ given.text ++ more)
most_more q given [] = (listing_at_end q.scope given.met, refl)
most_more q given (task ∷ tasks) = ([], sym (append-nil given.text))

-- a front of the text that was given is written
pub front_of : (q : QueryParts) (sections : List Section) (given : Given) (tasks : List (Task CidParts)) (written rest : List ℕ) → Verified q sections given tasks → given.text ≡ written ++ rest
    → IsFrontWritten q sections written
front_of q sections given tasks written rest verified e =
    let more = most_more q given tasks in
    record {
      given = given;
      tasks = tasks;
      verified = verified;
      rest = rest ++ more.0;
      text = more.1 ∙ ap (λ (t : List ℕ). t ++ more.0) e ∙ append_assoc written rest more.0;
    }

-- ---- a block at its place

-- the place is wanted behind these sections, and this is its block
pub record IsAtPlace (state : OpenerState) (sections : List Section) (given : Given) (at : WantedAt) (section : Section) (source : Source) : Type 0 where
  pub verified : Verified state.left.query sections given (open_block at.want at.cid ∷ state.left.later)
  pub reached : IsReached state.left.query state.limits (stage_of sections given (open_block at.want at.cid ∷ state.left.later))
  pub is_named : IsNamed section
  pub same : section.cid ≡ at.cid
  pub from : IsFrom state.left.query sections section source
  pub known : IsKnown state.left.query sections section
  pub small : is_sent_behind state.left.query sections section.cid ≡ true → length section.block ≤ state.limits.block
  pub counted : HasCounted state.left.query state.counts given
  pub lines : state.lines ≡ listed_lines state.left.query.scope given.met
  pub terminal : IsTerminalAt state.left.query sections given (open_block at.want at.cid ∷ state.left.later) state.terminal

-- the block was opened there: these tasks are left
pub record IsOpenedUpTo (old : OpenerState) (sections : List Section) (given : Given) (said : List ℕ) (new : OpenerState) : Type 0 where
  pub next : Given
  pub verified : Verified old.left.query sections next (tasks_left new.left)
  pub reached : IsReached old.left.query old.limits (stage_of sections next (tasks_left new.left))
  pub counted : HasCounted old.left.query new.counts next
  pub within : AreUnpassed old.limits (counts_given old.left.query next)
  pub text : next.text ≡ given.text ++ said
  pub lines : new.lines ≡ listed_lines old.left.query.scope next.met
  pub terminal : IsTerminalAt old.left.query sections next (tasks_left new.left) new.terminal

-- but where out failed nothing is put
abbrev pub IsNothing : Refusal → List ℕ → Type 0
IsNothing refusals.SinkFault text = ⊤
IsNothing other text = text ≡ []

pub nothing_put : (fault : Refusal) → IsNothing fault []
nothing_put refusals.SinkFault = tt
nothing_put (refusals.Truncated want number) = refl
nothing_put (refusals.NotThere segment) = refl
nothing_put (refusals.NotFolder segment) = refl
nothing_put (refusals.Extra number) = refl
nothing_put (refusals.Limit kind number) = refl
nothing_put (refusals.BadDigest cid) = refl
nothing_put (refusals.WrongBlock want got) = refl
nothing_put (refusals.BadBlock cid bad) = refl
nothing_put (refusals.BadSize declared actual) = refl
nothing_put refusals.OutOfMemory = refl

-- a text was put, and with it this stands for the refusal
pub record EndsWith (written : List ℕ) (out : Output) (fault : Refusal) (P : List ℕ → Refusal → Type 0) : Type 0 where
  pub text : List ℕ
  pub put : Put text out
  pub nothing : IsNothing fault text
  pub is : P (written ++ text) fault

module _ (v : VerifiedLaws) (computes : Computes) where
  reads_there : (q : QueryParts) (limits : LimitNumbers) (at : WantedAt) (section : Section) (kind : Kind) → IsNamed section → PassesAs q limits at section (Some kind)
      → IsReadAt (position_of at.want) section kind
  reads_there q limits at section kind named (block, sizes) = record {
    named = named.named;
    reads = (computes section.cid section.block kind named.are_bytes).0 block.reads;
    stands = sym (fault_same q at.want kind block.is_read) ∙ block.fits;
    of_size = sizes.0;
    tells_size = sizes.1;
  }

  -- with what the block leaves
  takes_block : (q : QueryParts) (limits : LimitNumbers) (sections : List Section) (given : Given) (at : WantedAt) (later : List (Task CidParts)) (section : Section) (kind : Option Kind)
      → IsNamed section → IsKnown q sections section → PassesAs q limits at section kind → Verified q sections given (open_block at.want section.cid ∷ later)
      → Verified q (taken_as q sections section) (with_place at.want section (text_of q at section kind) given) (tasks_behind q at section kind ++ later)
  takes_block q limits sections given at later section None named known passes verified = v.alone q sections given at.want section later known passes.1 named.named verified
  takes_block q limits sections given at later section (Some kind) named known passes verified =
      v.taken q sections given at.want section kind later known passes.0.is_read (reads_there q limits at section kind named passes) verified

  module _ (old : OpenerState) (sections : List Section) (given : Given) (at : WantedAt) (section : Section) (source : Source) (h : IsAtPlace old sections given at section source) where
    takes_next : (kind : Option Kind) → PassesAs old.left.query old.limits at section kind
        → Verified old.left.query (taken_as old.left.query sections section) (given_with old.left.query given old.left.later at section kind) (tasks_then (behind old at section kind))
    takes_next kind passes =
        v.up_to_next old.left.query (taken_as old.left.query sections section) _ (behind old at section kind)
        (takes_block old.left.query old.limits sections given at old.left.later section kind h.is_named h.known passes
        (subst (λ (cid : CidParts). Verified old.left.query sections given (open_block at.want cid ∷ old.left.later)) (sym h.same) h.verified))

    -- it is opened there
    opened_at : (kind : Option Kind) → PassesAs old.left.query old.limits at section kind
        → IsOpenedAt old.left.query old.limits (stage_of sections given (open_block at.want at.cid ∷ old.left.later))
        (stage_of (taken_as old.left.query sections section) (given_with old.left.query given old.left.later at section kind) (tasks_then (behind old at section kind)))
    opened_at kind passes = record {
      at = at;
      later = old.left.later;
      wanted = refl;
      verified = h.verified;
      section = section;
      same = h.same;
      is_named = h.is_named;
      known = h.known;
      small = h.small;
      kind = kind;
      passes = passes;
      sections_are = refl;
      given_is = refl;
      tasks_are = refl;
    }

    -- where it is sent from
    from_opened : IsFrom old.left.query (sent old.left.query (opened_by given)) section source
    from_opened = subst (λ (all : List Section). IsFrom old.left.query all section source) (sym h.verified.sent_are) h.from

    pub opens_up_to : (said : List ℕ) (new : OpenerState) → IsPlaced old at section source said new
        → IsOpenedUpTo old (taken_as old.left.query sections section) given said new
    opens_up_to said new p =
        let q = old.left.query in
        let next = given_with q given old.left.later at section p.kind in
        let all = taken_as q sections section in
        let counted : HasCounted q new.counts next =
        counted_on q given at section (text_of q at section p.kind) said (behind old at section p.kind) source old.counts new.counts from_opened p.said_is h.counted p.counted in
        let within : AreUnpassed old.limits (counts_given q next) = is_unpassed q old.limits p.small new.counts next counted p.within in
        let reached : IsReached q old.limits (stage_of all next (tasks_then (behind old at section p.kind))) =
        reached_next q old.limits (stage_of sections given (open_block at.want at.cid ∷ old.left.later)) (stage_of all next (tasks_then (behind old at section p.kind))) h.reached (opened_at p.kind p.passes)
        (record { within = within; no_stop = λ miss more e. never_stops new.left p.last miss more (p.left ∙ e) }) in
        record {
          next = next;
          verified = subst (λ (tasks : List (Task CidParts)). Verified q all next tasks) (sym p.left) (takes_next p.kind p.passes);
          reached = subst (λ (tasks : List (Task CidParts)). IsReached q old.limits (stage_of all next tasks)) (sym p.left) reached;
          counted = counted;
          within = within;
          text = append_assoc given.text (text_of q at section p.kind) (text_now (behind old at section p.kind)) ∙ ap (λ (t : List ℕ). given.text ++ t) (sym p.said_is);
          lines = p.lines ∙ ap (λ (ls : List ListingLine). ls ++ listed_lines q.scope (entries_now (behind old at section p.kind))) h.lines
              ∙ sym (lines_both q.scope given.met (entries_now (behind old at section p.kind)));
          terminal = subst (λ (t : Option Terminal). IsTerminalAt q all next (tasks_left new.left) t) (sym p.terminal)
              (subst (λ (tasks : List (Task CidParts)). IsTerminalAt q all next tasks (terminal_behind old.terminal (is_terminal at.want) p.kind)) (sym p.left)
              (next_terminal v q sections given section h.is_named h.known old.limits at old.left.later h.same (λ kind passes. reads_there q old.limits at section kind h.is_named passes)
              old.terminal p.kind p.passes h.terminal));
        }

    -- what the path leads to is told, whether it is opened or not
    pub leads_behind : (t : Option Terminal) → IsToldBehind old at section t → IfSome t (LeadsTo old.left.query (taken_as old.left.query sections section))
    leads_behind t told =
        led_behind v old.left.query sections given section h.is_named h.known old.limits at old.left.later h.same (λ kind passes. reads_there old.left.query old.limits at section kind h.is_named passes)
        old.terminal t h.terminal told

    -- ---- or it isn't

    -- a segment leads nowhere behind it: before it no text is given
    pub misses_behind : (written : List ℕ) (miss : Miss) → written ≡ given.text → IsMissedBehind old at section miss
        → IsNowhere old.left.query old.limits (taken_as old.left.query sections section) written miss
    misses_behind written miss text m =
        let q = old.left.query in
        let (more, stops) = m.stops in
        let next = given_with q given old.left.later at section m.kind in
        let verified = subst (λ (tasks : List (Task CidParts)). Verified q (taken_as q sections section) next tasks) stops (takes_next m.kind m.passes) in
        let none : next.text ≡ [] = (v.misses q (taken_as q sections section) next miss more verified).nothing in
        record {
          given = next;
          later = more;
          verified = verified;
          reached = record {
            before = stage_of sections given (open_block at.want at.cid ∷ old.left.later);
            reached = h.reached;
            opened = subst (λ (tasks : List (Task CidParts)). IsOpenedAt q old.limits (stage_of sections given (open_block at.want at.cid ∷ old.left.later)) (stage_of (taken_as q sections section) next tasks)) stops (opened_at m.kind m.passes);
          };
          text = text ∙ both_nothing given.text (text_of q at section m.kind) (text_now (behind old at section m.kind)) none ∙ sym none;
        }
      where
        both_nothing : (a b c : List ℕ) → (a ++ b) ++ c ≡ [] → a ≡ []
        both_nothing [] b c e = refl
        both_nothing (x ∷ a) b c e = cc

    -- a limit is passed with it
    is_over : (limit : LimitKind) (number : ℕ) → IsOverBehind old at section source limit number → IsOver old.left.query old.limits given old.left.later at section limit number
    is_over limit number o =
        let q = old.left.query in
        let counted = counted_on q given at section (text_of q at section o.kind) (text_of q at section o.kind ++ text_now (behind old at section o.kind)) (behind old at section o.kind) source old.counts
        o.counts from_opened refl h.counted o.counted in
        record {
          kind = o.kind;
          passes = o.passes;
          no_stop = λ miss more e. o.no_stop miss (more, e);
          number_is = o.number_is;
          over = is_passed q old.limits o.small o.counts (given_with q given old.left.later at section o.kind) counted limit o.over;
        }

    pub place_cause : (fault : Refusal) → HasOpenCause old at section source fault → ((segment : ℕ) → fault ≡ refusals.NotThere segment → ⊥) → ((segment : ℕ)
        → fault ≡ refusals.NotFolder segment → ⊥)
        → HasPlaceCause old.left.query old.limits given old.left.later at section fault
    place_cause (refusals.NotThere segment) cause there folder = absurd (there segment refl)
    place_cause (refusals.NotFolder segment) cause there folder = absurd (folder segment refl)
    place_cause (refusals.Limit kinds.Block number) cause there folder = absurd cause.over
    place_cause (refusals.Limit kinds.Depth number) cause there folder = cause
    place_cause (refusals.Limit kinds.Entries number) cause there folder = is_over kinds.Entries number cause
    place_cause (refusals.Limit kinds.Names number) cause there folder = is_over kinds.Names number cause
    place_cause (refusals.Limit kinds.Received number) cause there folder = absurd cause.over
    place_cause (refusals.Limit kinds.Output number) cause there folder = is_over kinds.Output number cause
    place_cause (refusals.Limit kinds.SeenBlocks number) cause there folder = is_over kinds.SeenBlocks number cause
    place_cause (refusals.Limit kinds.SeenBytes number) cause there folder = is_over kinds.SeenBytes number cause
    place_cause (refusals.Limit kinds.Reused number) cause there folder = is_over kinds.Reused number cause
    place_cause (refusals.BadBlock cid bad) cause there folder = cause
    place_cause (refusals.BadSize declared actual) cause there folder = cause
    place_cause refusals.OutOfMemory cause there folder = tt
    place_cause (refusals.Extra number) cause there folder = absurd cause
    place_cause (refusals.BadDigest cid) cause there folder = absurd cause
    place_cause (refusals.WrongBlock want got) cause there folder = absurd cause
    place_cause refusals.SinkFault cause there folder = absurd cause
    place_cause (refusals.Truncated want number) cause there folder = absurd cause

    -- ---- what stands for it

    -- the refusals of which this holds
    pub record Ends (all : List Section) (written : List ℕ) (P : List ℕ → Refusal → Type 0) : Type 0 where
      pub no_entry_there : (segment : ℕ) → IsNowhere old.left.query old.limits all written (no_entry segment) → P written (refusals.NotThere segment)
      pub no_directory_there : (segment : ℕ) → IsNowhere old.left.query old.limits all written (no_directory segment) → P written (refusals.NotFolder segment)
      pub front : (text : List ℕ) → IsFrontWritten old.left.query all text → P text refusals.SinkFault
      pub refused : (fault : Refusal) → HasPlaceCause old.left.query old.limits given old.left.later at section fault → P written fault

    module _ (written : List ℕ) (text : written ≡ given.text) (P : List ℕ → Refusal → Type 0) (ends : Ends (taken_as old.left.query sections section) written P) (out : Output) (new : OpenerState) where
      unopened : (fault : Refusal) → IsUnopened old at section source out fault → P written fault → EndsWith written out fault P
      unopened fault u p = record { text = []; put = u.put; nothing = nothing_put fault; is = subst (λ (t : List ℕ). P t fault) (sym (append-nil written)) p }

      other : (fault : Refusal) → IsUnopened old at section source out fault → ((segment : ℕ) → fault ≡ refusals.NotThere segment → ⊥) → ((segment : ℕ) → fault ≡ refusals.NotFolder segment → ⊥)
          → EndsWith written out fault P
      other fault u there folder = unopened fault u (ends.refused fault (place_cause fault u.cause there folder))

      pub placed_ends : (fault : Refusal) → IsPlacedAt old at section source out new (Err fault) → EndsWith written out fault P
      placed_ends refusals.SinkFault f =
          let o = opens_up_to f.said new f.placed in
          record {
            text = f.front.front;
            put = f.front.put;
            nothing = tt;
            is = ends.front (written ++ f.front.front) (front_of old.left.query (taken_as old.left.query sections section) o.next (tasks_left new.left) (written ++ f.front.front) f.front.rest o.verified
                (o.text ∙ ap (λ (t : List ℕ). t ++ f.said) (sym text) ∙ ap (λ (t : List ℕ). written ++ t) f.front.whole ∙ sym (append_assoc written f.front.front f.front.rest)));
          }
      placed_ends (refusals.NotThere segment) u = unopened (refusals.NotThere segment) u (ends.no_entry_there segment (misses_behind written (no_entry segment) text u.cause))
      placed_ends (refusals.NotFolder segment) u = unopened (refusals.NotFolder segment) u (ends.no_directory_there segment (misses_behind written (no_directory segment) text u.cause))
      placed_ends (refusals.Extra number) u = other (refusals.Extra number) u (λ s e. cc) (λ s e. cc)
      placed_ends (refusals.Limit kind number) u = other (refusals.Limit kind number) u (λ s e. cc) (λ s e. cc)
      placed_ends (refusals.BadDigest cid) u = other (refusals.BadDigest cid) u (λ s e. cc) (λ s e. cc)
      placed_ends (refusals.WrongBlock want got) u = other (refusals.WrongBlock want got) u (λ s e. cc) (λ s e. cc)
      placed_ends (refusals.BadBlock cid bad) u = other (refusals.BadBlock cid bad) u (λ s e. cc) (λ s e. cc)
      placed_ends (refusals.BadSize declared actual) u = other (refusals.BadSize declared actual) u (λ s e. cc) (λ s e. cc)
      placed_ends (refusals.Truncated want number) u = other (refusals.Truncated want number) u (λ s e. cc) (λ s e. cc)
      placed_ends refusals.OutOfMemory u = other refusals.OutOfMemory u (λ s e. cc) (λ s e. cc)

-- ---- whatever stood before: faults of out, and which refusals there are

module _ (old : OpenerState) (at : WantedAt) (section : Section) (source : Source) (out : Output) (new : OpenerState) where
  pub placed_cause : (fault : Refusal) → IsPlacedAt old at section source out new (Err fault) → HasPutCause (Err fault) out
  placed_cause refusals.SinkFault f = f.rose
  placed_cause (refusals.Truncated want number) u = absurd u.cause
  placed_cause (refusals.NotThere segment) u = u.quiet
  placed_cause (refusals.NotFolder segment) u = u.quiet
  placed_cause (refusals.Extra number) u = u.quiet
  placed_cause (refusals.Limit kind number) u = u.quiet
  placed_cause (refusals.BadDigest cid) u = u.quiet
  placed_cause (refusals.WrongBlock want got) u = u.quiet
  placed_cause (refusals.BadBlock cid bad) u = u.quiet
  placed_cause (refusals.BadSize declared actual) u = u.quiet
  placed_cause refusals.OutOfMemory u = u.quiet

  pub placed_fault : (fault : Refusal) → IsPlacedAt old at section source out new (Err fault) → IsPlaceFault fault
  placed_fault refusals.SinkFault f = tt
  placed_fault (refusals.Truncated want number) u = absurd u.cause
  placed_fault (refusals.NotThere segment) u = tt
  placed_fault (refusals.NotFolder segment) u = tt
  placed_fault (refusals.Extra number) u = absurd u.cause
  placed_fault (refusals.Limit kinds.Block number) u = let cause = u.cause in absurd cause.over
  placed_fault (refusals.Limit kinds.Depth number) u = tt
  placed_fault (refusals.Limit kinds.Entries number) u = tt
  placed_fault (refusals.Limit kinds.Names number) u = tt
  placed_fault (refusals.Limit kinds.Received number) u = tt
  placed_fault (refusals.Limit kinds.Output number) u = tt
  placed_fault (refusals.Limit kinds.SeenBlocks number) u = tt
  placed_fault (refusals.Limit kinds.SeenBytes number) u = tt
  placed_fault (refusals.Limit kinds.Reused number) u = tt
  placed_fault (refusals.BadDigest cid) u = absurd u.cause
  placed_fault (refusals.WrongBlock want got) u = absurd u.cause
  placed_fault (refusals.BadBlock cid bad) u = tt
  placed_fault (refusals.BadSize declared actual) u = tt
  placed_fault refusals.OutOfMemory u = tt
