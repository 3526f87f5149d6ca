-- What stands of a swarm once it took the root's block.
use Rattle.std.proofs.Common.{All, Err, List, None, Ok, Result, Some, [], ap, arith, length, min, refl, subst, sym, zero, ℕ, ◌+◌, ◌-◌, ◌<◌, ◌^◌, ◌∙◌, ◌≡◌, ◌≢◌}
use Rattle.tg_model.specs.Computed.{read}
use Rattle.tg_model.specs.Placed.{GivesPlaced}
use Rattle.tg_model.specs.declared.fault.BlockFault.{BlockFault}
use Rattle.tg_model.specs.declared.fault.BlockFault.TheVariants as block_faults
use Rattle.tg_model.specs.declared.kinds.Kind.TheVariants.{Raw}
use Rattle.tg_parts.specs.Connections.{AreAnswers, Connection, IsRootBlock, IsRootOfFile}
use Rattle.tg_parts.specs.Connections as connected
use Rattle.tg_parts.specs.Parts.{part_count}
use Rattle.tg_streams.specs.Streams.{Output, OutputQuiet, Put, Unput}
use Rattle.tg_swarm.proofs.Places.{texts_within}
use Rattle.tg_swarm.proofs.Rooting.{FileIs, KindIsNot, placed_fault}
use Rattle.tg_swarm.specs.Said.{IsBeginning, IsPuttingRoot, IsRooting, RootSays, RootedEnds, StopsBy, fault_of_block}
use Rattle.tg_swarm.specs.Swarms.{AnswersFor, AnswersJob, IsNotFile, IsPlanned, StandsFor, SwarmState, asked_of, jobs_left, one_if_root}
use Rattle.tg_swarm.specs.declared.fault.SwarmFault.{SwarmFault}
use Rattle.tg_swarm.specs.declared.fault.SwarmFault.TheVariants as faults
use Rattle.tg_swarm.specs.declared.swarm.Plan.{Plan}
use Rattle.tg_swarm.specs.declared.swarm.Plan.TheVariants as plans
use Rattle.tg_verify.specs.declared.verifier.Progress.{Progress}

module _ (old : SwarmState) (block : List ℕ) (connections : List Connection) (r : IsRooting old block connections)
    (bytes : All (λ b. b < 256) block) where
  root_block : IsRootBlock old.root connections block
  root_block = record { accepted = r.accepted; bytes = bytes }

  root_answers : AreAnswers (AnswersJob (asked_of old connections)) 1 block
  root_answers = subst (λ (p : Plan). AreAnswers (AnswersFor old.root old.part p connections) 1 block) (sym r.plan)
      (connected.more zero [] block connected.none root_block)

  pub root_says : (says : List ℕ → Type 0) (out : Output) → says block → Unput out → OutputQuiet out → RootSays old connections says out
  root_says says out is unput quiet =
      record { plan = r.plan; block = block; block_is = root_block; says_so = is; unput = unput; quiet = quiet }

  -- a job less is left
  root_one : one_if_root old.plan ≡ 1
  root_one = ap one_if_root r.plan

  fewer_by : (new later : SwarmState) → new ≡ later → jobs_left later < jobs_left old → jobs_left new < jobs_left old
  fewer_by new later is less = subst (λ (t : SwarmState). jobs_left t < jobs_left old) (sym is) less

  -- ---- a file

  is_file : (total : ℕ) → FileIs total (read old.root block) → IsRootOfFile old.root connections total
  is_file total file = record {
    block = block;
    block_is = root_block;
    kind = file.kind;
    reads = file.reads;
    file = file.file;
    total_is = file.total_is (record { cid = old.root; block = block });
  }

  parts_stand : (total : ℕ) → FileIs total (read old.root block) → part_count old.part total < 2 ^ 64
      → StandsFor (record old { plan = plans.Parts total; jobs = record old.jobs { count = part_count old.part total; written = 0 } }) connections []
  parts_stand total file fits = record {
    going = r.going;
    planned = (is_file total file, refl);
    jobs = record {
      almost = record {
        within = omega arith;
        fits = fits;
        room = r.jobs.almost.room;
        jobs = λ i job h. absurd (r.nobody i job h);
        one = λ i j job h g. absurd (r.nobody i job h);
        done = λ k text h. absurd (let e : Some text ≡ None = r.none k (Some text) h in cc);
      };
      first = r.jobs.first;
    };
    answers = connected.none;
  }

  pub begun : (new : SwarmState) (total : ℕ) (out : Output) (result : Result Progress SwarmFault) → FileIs total (read old.root block)
      → IsBeginning old new total result → Put [] out → Unput out → OutputQuiet out → RootedEnds old new connections block out result
  begun new total out (Ok progress) file b put unput quiet =
      let fits : part_count old.part total < 2 ^ 64 = subst (λ (t : SwarmState). t.jobs.count < 2 ^ 64) b.0 b.1 in
      let stands : StandsFor new connections [] = subst (λ (t : SwarmState). StandsFor t connections []) (sym b.0) (parts_stand total file fits) in
      record {
        text = [];
        put = put;
        quiet = quiet;
        stands = stands;
        progress_is = b.2 stands.jobs.almost.within;
        closed = λ plan. absurd (let e : plans.Parts total ≡ plans.Root = sym (ap (λ (t : SwarmState). t.plan) b.0) ∙ plan in cc);
        fewer = fewer_by new (record old { plan = plans.Parts total; jobs = record old.jobs { count = part_count old.part total; written = 0 } }) b.0
            (omega (arith, root_one, texts_within old.jobs.parts, r.written));
      }
  begun new total out (Err fault) file b put unput quiet =
      subst (λ (f : SwarmFault). StopsBy old new connections [] out f) (sym b.1)
      (refl, refl, root_says _ out (total, is_file total file, b.2) unput quiet)

  pub no_file : (out : Output) → KindIsNot (read old.root block) → Unput out → OutputQuiet out
      → RootSays old connections (λ b. IsNotFile old.root connections b) out
  no_file out none unput quiet = root_says _ out (none.0, none.1, none.2) unput quiet

  -- ---- a raw block

  raw_stands : read old.root block ≡ Ok Raw → StandsFor (record old { jobs = record old.jobs { written = 1 } }) connections block
  raw_stands raw = record {
    going = r.going;
    planned = subst (λ (p : Plan). IsPlanned old.root old.part p (record old.jobs { written = 1 }) connections block) (sym r.plan)
        (r.count, r.none, λ e. raw);
    jobs = record {
      almost = record {
        within = omega (arith, r.count);
        fits = r.jobs.almost.fits;
        room = r.jobs.almost.room;
        jobs = λ i job h. absurd (r.nobody i job h);
        one = λ i j job h g. absurd (r.nobody i job h);
        done = λ k text h. absurd (let e : Some text ≡ None = r.none k (Some text) h in cc);
      };
      first = r.jobs.first;
    };
    answers = root_answers;
  }

  raw_file : read old.root block ≡ Ok Raw → IsRootOfFile old.root connections (length block)
  raw_file raw = record { block = block; block_is = root_block; kind = Raw; reads = raw; file = tt; total_is = refl }

  pub root_put : (new : SwarmState) (out : Output) (result : Result Progress SwarmFault) → read old.root block ≡ Ok Raw
      → IsPuttingRoot old new block out result → RootedEnds old new connections block out result
  root_put new out (Ok progress) raw p =
      let done : min (old.jobs.written + 1) (2 ^ 64 - 1) ≡ 1 = omega (arith, r.written) in
      let is : new ≡ record old { jobs = record old.jobs { written = 1 } } =
      p.0 ∙ ap (λ (n : ℕ). record old { jobs = record old.jobs { written = n } }) done
      in
      let stands : StandsFor new connections block = subst (λ (t : SwarmState). StandsFor t connections block) (sym is) (raw_stands raw) in
      record {
        text = block;
        put = p.1;
        quiet = p.2;
        stands = stands;
        progress_is = p.3 stands.jobs.almost.within;
        closed = λ plan. ap (λ (t : SwarmState). t.jobs.written) is;
        fewer = fewer_by new (record old { jobs = record old.jobs { written = 1 } }) is (omega (arith, root_one, texts_within old.jobs.parts, r.written));
      }
  root_put new out (Err faults.SinkFault) raw p = record {
    failed = record {
      text = block;
      front = p.1;
      job = 1;
      within = let n = ap (λ (t : SwarmState). t.jobs.count) p.0 in omega (arith, n, r.count);
      answers = root_answers;
    };
    raw = λ plan. raw;
  }
  root_put new out (Err (faults.Limit kind number)) raw p =
      (p.1, p.2, root_says _ out (length block, raw_file raw, p.3) p.4 p.5)
  root_put new out (Err faults.NoPeerLeft) raw p = absurd p
  root_put new out (Err faults.NotFile) raw p = absurd p
  root_put new out (Err (faults.BadRoot why)) raw p = absurd p
  root_put new out (Err faults.OutOfMemory) raw p = absurd p

  -- ---- it has no kind

  unread : (fault : BlockFault) (out : Output) → fault ≢ block_faults.OutOfMemory → GivesPlaced block (Err fault) (read old.root block) → Unput out
      → OutputQuiet out → RootSays old connections (λ b. read old.root b ≡ Err fault) out
  unread fault out other g unput quiet = root_says _ out (placed_fault block fault (read old.root block) other g) unput quiet

  pub faulted : (fault : BlockFault) (out : Output) → GivesPlaced block (Err fault) (read old.root block) → Unput out → OutputQuiet out
      → StopsBy old old connections [] out (fault_of_block fault)
  faulted block_faults.OutOfMemory out g unput quiet = (unput, quiet)
  faulted (block_faults.BadNode why) out g unput quiet = unread (block_faults.BadNode why) out (λ e. cc) g unput quiet
  faulted (block_faults.BadLink at) out g unput quiet = unread (block_faults.BadLink at) out (λ e. cc) g unput quiet
  faulted block_faults.NoUnix out g unput quiet = unread block_faults.NoUnix out (λ e. cc) g unput quiet
  faulted (block_faults.BadUnix why) out g unput quiet = unread (block_faults.BadUnix why) out (λ e. cc) g unput quiet
  faulted (block_faults.BadSizes links sizes) out g unput quiet = unread (block_faults.BadSizes links sizes) out (λ e. cc) g unput quiet
  faulted block_faults.HugeSizes out g unput quiet = unread block_faults.HugeSizes out (λ e. cc) g unput quiet
  faulted (block_faults.BadName at) out g unput quiet = unread (block_faults.BadName at) out (λ e. cc) g unput quiet
  faulted (block_faults.DoubledName at) out g unput quiet = unread (block_faults.DoubledName at) out (λ e. cc) g unput quiet
  faulted (block_faults.BadBits bits links) out g unput quiet = unread (block_faults.BadBits bits links) out (λ e. cc) g unput quiet
  faulted (block_faults.BadSlot at) out g unput quiet = unread (block_faults.BadSlot at) out (λ e. cc) g unput quiet
  faulted block_faults.BadShape out g unput quiet = unread block_faults.BadShape out (λ e. cc) g unput quiet
  faulted block_faults.BelowEight out g unput quiet = unread block_faults.BelowEight out (λ e. cc) g unput quiet
  faulted (block_faults.Misplaced at) out g unput quiet = unread (block_faults.Misplaced at) out (λ e. cc) g unput quiet
  faulted block_faults.NotShard out g unput quiet = unread block_faults.NotShard out (λ e. cc) g unput quiet
  faulted block_faults.NotPart out g unput quiet = unread block_faults.NotPart out (λ e. cc) g unput quiet
