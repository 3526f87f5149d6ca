-- A block that is opened at its place, with what comes up to the next one, as it is counted.
use Rattle.std.specs.List.{flat_map}
use Rattle.std.specs.Prelude.{Bool}
use Rattle.std.proofs.Common.{List, Option, [], ap, append_assoc, arith, length, subst, sym, ℕ, ◌+◌, ◌++◌, ◌<◌, ◌∙◌, ◌≡◌}
use Rattle.tg_cid.specs.Cid.{CidParts}
use Rattle.tg_model.specs.Counts.{met_line}
use Rattle.tg_model.specs.Dag.{Section}
use Rattle.tg_model.specs.LimitNumbers.{AreWithin, LimitNumbers, number_of, standard}
use Rattle.tg_model.specs.Queries.{QueryParts}
use Rattle.tg_model.specs.Traversal.{ListedEntry}
use Rattle.tg_model.specs.declared.kinds.Kind.{Kind}
use Rattle.tg_model.specs.declared.limits.LimitKind.TheVariants as kinds
use Rattle.tg_model.specs.declared.limits.LimitKind.{LimitKind}
use Rattle.tg_traversal.specs.BlocksLeft.{HasFewer, blocks_over, then_keeps}
use Rattle.tg_traversal.specs.Left.{LeftState, WantedAt, tasks_left}
use Rattle.tg_model_laws.specs.Tasks.{Task, entries_now, tasks_then, text_now}
use Rattle.tg_verify.specs.Counting.{HasMet, IsCountedOn, IsFirstPassed, blocks_added, bytes_added, numbers_of, reused_added}
use Rattle.tg_verify.specs.Opening.{PassesAs, text_of}
use Rattle.tg_verify.proofs.Reaching.{never_stops}
use Rattle.tg_verify.specs.State.{OpenerState, told}
use Rattle.tg_verify.specs.Steps.{HasOpenCause, IsGathered, IsOpenedHere, IsOverBehind, IsSameOpener, behind, left_of}
use Rattle.tg_verify.specs.declared.counts.Counts.{Counts}
use Rattle.tg_verify.specs.declared.counts.Source.{Source}
use Rattle.tg_verify.specs.declared.fault.Refusal.TheVariants as refusals

-- a number is told once, in whatever steps it grows
told_twice : (a b c : ℕ) → told (told (a + b) + c) ≡ told (a + (c + b))
told_twice a b c = omega arith

-- a block was counted, and what was said with it
pub record IsBlockCounted (old : OpenerState) (source : Source) (block text : List ℕ) (new : OpenerState) : Type 0 where
  pub left : new.left ≡ old.left
  pub limits : new.limits ≡ old.limits
  pub lines : new.lines ≡ old.lines
  pub output : new.counts.output ≡ told (old.counts.output + length text)
  pub seen_blocks : new.counts.seen_blocks ≡ told (old.counts.seen_blocks + blocks_added old.left.query.dups source)
  pub seen_bytes : new.counts.seen_bytes ≡ told (old.counts.seen_bytes + bytes_added old.left.query.dups source block)
  pub reused : new.counts.reused ≡ told (old.counts.reused + reused_added old.left.query.dups source)
  pub met : (met : List ListedEntry) → HasMet old.counts met → HasMet new.counts met

-- a block was opened, and no more
pub record IsBlockOpened (old : OpenerState) (at : WantedAt) (section : Section) (kind : Option Kind) (said : List ℕ) (new : OpenerState) : Type 0 where
  pub same : IsSameOpener old new
  pub lines : new.lines ≡ old.lines
  pub counts : new.counts ≡ old.counts
  pub opened : IsOpenedHere old at section kind said new

module _ (old opened gathered new : OpenerState) (at : WantedAt) (section : Section) (kind : Option Kind) (source : Source) (line bytes ends : List ℕ)
    (o : IsBlockOpened old at section kind (line ++ bytes) opened) (same : IsSameOpener opened gathered) (g : IsGathered opened [] gathered ends)
    (n : IsBlockCounted gathered source section.block (line ++ (bytes ++ ends)) new) where
  -- what the block leaves
  abbrev tasks : List (Task CidParts)
  tasks = behind old at section kind

  left_is : left_of opened ≡ tasks
  left_is = o.opened.left

  query_is : gathered.left.query ≡ old.left.query
  query_is = same.query ∙ o.same.query

  limits_are : new.limits ≡ old.limits
  limits_are = n.limits ∙ same.limits ∙ o.same.limits

  said_is : line ++ (bytes ++ ends) ≡ text_of old.left.query at section kind ++ text_now tasks
  said_is =
      sym (append_assoc line bytes ends) ∙ ap (λ (t : List ℕ). t ++ ends) o.opened.said_is
      ∙ ap (λ (t : List ℕ). text_of old.left.query at section kind ++ t) (g.ends_are ∙ ap (λ (ts : List (Task CidParts)). text_now ts) left_is)

  abbrev lines : List (Task CidParts) → ℕ
  lines ts = length (flat_map met_line (entries_now ts))

  output : new.counts.output ≡ told (old.counts.output + (length (line ++ (bytes ++ ends)) + lines tasks))
  output =
      let gathered_is : gathered.counts.output ≡ told (old.counts.output + lines tasks) =
      g.output ∙ ap (λ (c : Counts). told (c.output + lines (left_of opened))) o.counts ∙ ap (λ (ts : List (Task CidParts)). told (old.counts.output + lines ts)) left_is in
      n.output ∙ ap (λ (k : ℕ). told (k + length (line ++ (bytes ++ ends)))) gathered_is ∙ told_twice old.counts.output (lines tasks) (length (line ++ (bytes ++ ends)))

  met : (before : List ListedEntry) → HasMet old.counts before → HasMet new.counts (before ++ entries_now tasks)
  met before h =
      n.met _ (subst (λ (ts : List (Task CidParts)). HasMet gathered.counts (before ++ entries_now ts)) left_is
      (g.met before (subst (λ (c : Counts). HasMet c before) (sym o.counts) h)))

  added : (add : Bool → ℕ) (was now then : ℕ) → now ≡ was → then ≡ told (now + add gathered.left.query.dups) → then ≡ told (was + add old.left.query.dups)
  added add was now then e h = h ∙ ap (λ (k : ℕ). told (k + add gathered.left.query.dups)) e ∙ ap (λ (q : QueryParts). told (was + add q.dups)) query_is

  counted : IsCountedOn old.left.query.dups source section.block (line ++ (bytes ++ ends)) (entries_now tasks) old.counts new.counts
  counted = record {
    met = met;
    output = output;
    seen_blocks = added (λ d. blocks_added d source) _ _ _ (g.seen_blocks ∙ ap (λ (c : Counts). c.seen_blocks) o.counts) n.seen_blocks;
    seen_bytes = added (λ d. bytes_added d source section.block) _ _ _ (g.seen_bytes ∙ ap (λ (c : Counts). c.seen_bytes) o.counts) n.seen_bytes;
    reused = added (λ d. reused_added d source) _ _ _ (g.reused ∙ ap (λ (c : Counts). c.reused) o.counts) n.reused;
  }

  over : (limit : LimitKind) → PassesAs old.left.query old.limits at section kind → AreWithin standard new.limits → IsFirstPassed new.limits (numbers_of new.counts) limit
      → IsOverBehind old at section source limit (number_of limit new.limits)
  over limit passes small first = record {
    kind = kind;
    passes = passes;
    no_stop = λ miss (more, e). never_stops gathered.left g.last miss more (g.left ∙ ap (λ (ts : List (Task CidParts)). tasks_then ts) left_is ∙ e);
    counts = new.counts;
    counted = subst (λ (t : List ℕ). IsCountedOn old.left.query.dups source section.block t (entries_now tasks) old.counts new.counts) said_is counted;
    small = subst (λ (l : LimitNumbers). AreWithin standard l) limits_are small;
    number_is = ap (λ (l : LimitNumbers). number_of limit l) limits_are;
    over = subst (λ (l : LimitNumbers). IsFirstPassed l (numbers_of new.counts) limit) limits_are first;
  }

  -- this limit is the first that is passed
  pub passed : (limit : LimitKind) → PassesAs old.left.query old.limits at section kind → AreWithin standard new.limits → IsFirstPassed new.limits (numbers_of new.counts) limit
      → HasOpenCause old at section source (refusals.Limit limit (number_of limit new.limits))
  passed kinds.Block passes small first = absurd first
  passed kinds.Depth passes small first = absurd first
  passed kinds.Entries passes small first = over kinds.Entries passes small first
  passed kinds.Names passes small first = over kinds.Names passes small first
  passed kinds.Received passes small first = absurd first
  passed kinds.Output passes small first = over kinds.Output passes small first
  passed kinds.SeenBlocks passes small first = over kinds.SeenBlocks passes small first
  passed kinds.SeenBytes passes small first = over kinds.SeenBytes passes small first
  passed kinds.Reused passes small first = over kinds.Reused passes small first

-- fewer blocks are left
pub fewer_then : (old opened new : LeftState) → HasFewer old opened → tasks_left new ≡ tasks_then (tasks_left opened) → HasFewer old new
fewer_then old opened new fewer left most at wanted shallow =
    let same : blocks_over most (tasks_left new) ≡ blocks_over most (tasks_left opened) = ap (λ (ts : List (Task CidParts)). blocks_over most ts) left ∙ then_keeps most (tasks_left opened) in
    subst (λ (n : ℕ). n < blocks_over most (tasks_left old)) (sym same) (fewer most at wanted shallow)
