use Rattle.std.proofs.Common.{◌≡◌, ℕ, List, [], ◌+◌, ◌*◌, ◌<◌, get_or, length, refl, ap, sym, ◌∙◌, subst, arith}
use Rattle.std.proofs.lemmas.List.{get_or_default}
use Rattle.std.proofs.lemmas.List.Elements.{All-nil}
use Rattle.std.proofs.lemmas.Result.{err_from_is_err_and}
use Rattle.tg_hamt.proofs.Directory.{directory_made, directory_stops, none_passed_over, sorted_few, pair_cause, pair_differs, read_hashed, read_name, sorted_order, sorted_tsizes}
use Rattle.tg_node_writing.specs.KeepingSteps.{keeps_nothing, same_stops}
use Rattle.tg_hamt.proofs.sharded.build.Goals as goal
use Rattle.tg_hamt.specs.Directories.{IsOfSharded, StopsSharded}
use Rattle.tg_hamt.specs.Order.{IsOrder, IsSamePair, Rises, tsizes_in}
use Rattle.tg_hamt.specs.Shards.{MakesShard, StopsShard}
use Rattle.tg_node_writing.specs.BlockOrder.{entry_cids}
use Rattle.tg_node_writing.specs.BlockOrderLaws.{behind_nothing}
use Rattle.tg_hamt.specs.declared.order.Hashed.{Hashed}
use Rattle.tg_model.specs.Stores.{KeepMeaning, kept_in}
use Rattle.tg_model.specs.declared.kinds.NewEntry.{NewEntry}
use Rattle.tg_model.specs.declared.stores.KeepFault.{KeepFault}
use Rattle.tg_model.specs.declared.stores.KeepFault.TheVariants as faults

small_offset : (i len : ℕ) → i < len → len < 4294967296 → i * 168 < 18446744073709551616
small_offset i len lt few = omega arith

-- nothing was kept, and memory is wanted
stops_nothing : {S : Type 0} → (m : KeepMeaning S) → ((s : S) → m.kept s s []) → (k : S) (es : List NewEntry) → StopsSharded es faults.OutOfMemory (kept_in m k k)
stops_nothing m rests k es =
    record { sections = []; stops = same_stops m rests k; order = behind_nothing (entry_cids es); each = λ children lead sound. All-nil (IsOfSharded es children) }

pub returns-in_err-order-clause-cause : goal.returns-in_err-order-clause-cause
returns-in_err-order-clause-cause g c =
    let p = err_from_is_err_and c.from_residual.result c.from_residual.ensures.1 in
    rw (p.1, p.2) (stops_nothing g.K.Keep.keeper g.met.K.Keep.rests c.args.keep.now c.args.entries.now)

pub bounds-entries-index : goal.bounds-entries-index
bounds-entries-index g c =
    let same : length c.as_slice.result.now ≡ length c.in_ok-order.order.items = ap length c.as_slice.ensures.value in
    let pair : IsSamePair c.as_slice.result.now c.in-Some.i = c.in-Some.ensures in
    let one = read_hashed c.args.entries.now c.in_ok-order.order.items c.in_ok-order.ensures c.in-Some.i c.index.result.now (omega (arith, pair.inside, same)) c.index.ensures in
    one.inside

pub bounds-entries-index-in-Some : goal.bounds-entries-index-in-Some
bounds-entries-index-in-Some g c =
    let same : length c.as_slice.result.now ≡ length c.in_ok-order.order.items = ap length c.as_slice.ensures.value in
    let pair : IsSamePair c.as_slice.result.now c.in-Some.i = c.in-Some.ensures in
    let other = read_hashed c.args.entries.now c.in_ok-order.order.items c.in_ok-order.ensures (c.in-Some.i + 1) c.index-in-Some.result.now (omega (arith, pair.inside, same)) c.index-in-Some.ensures in
    other.inside

pub offset_bounds-entries-index : goal.offset_bounds-entries-index
offset_bounds-entries-index g c =
    let same : length c.as_slice.result.now ≡ length c.in_ok-order.order.items = ap length c.as_slice.ensures.value in
    let pair : IsSamePair c.as_slice.result.now c.in-Some.i = c.in-Some.ensures in
    let one = read_hashed c.args.entries.now c.in_ok-order.order.items c.in_ok-order.ensures c.in-Some.i c.index.result.now (omega (arith, pair.inside, same)) c.index.ensures in
    record { fits = small_offset c.index.result.now.index (length c.args.entries.now) one.inside c.requires.few }

pub offset_bounds-entries-index-in-Some : goal.offset_bounds-entries-index-in-Some
offset_bounds-entries-index-in-Some g c =
    let same : length c.as_slice.result.now ≡ length c.in_ok-order.order.items = ap length c.as_slice.ensures.value in
    let pair : IsSamePair c.as_slice.result.now c.in-Some.i = c.in-Some.ensures in
    let other = read_hashed c.args.entries.now c.in_ok-order.order.items c.in_ok-order.ensures (c.in-Some.i + 1) c.index-in-Some.result.now (omega (arith, pair.inside, same)) c.index-in-Some.ensures in
    record { fits = small_offset c.index-in-Some.result.now.index (length c.args.entries.now) other.inside c.requires.few }

pub same_hash_fault-requires : goal.same_hash_fault-requires
same_hash_fault-requires g c =
    let same : length c.as_slice.result.now ≡ length c.in_ok-order.order.items = ap length c.as_slice.ensures.value in
    let pair : IsSamePair c.as_slice.result.now c.in-Some.i = c.in-Some.ensures in
    pair_differs c.args.entries.now c.in_ok-order.order.items c.in_ok-order.ensures c.requires.differ c.in-Some.i c.index.result.now c.index-in-Some.result.now c.index-entries-index.result c.index-entries-index-in-Some.result
    (omega (arith, pair.inside, same)) c.index.ensures c.index-in-Some.ensures c.index-entries-index.is c.index-entries-index-in-Some.is

pub returns-in-Some-clause-cause : goal.returns-in-Some-clause-cause
returns-in-Some-clause-cause g c =
    let same : length c.as_slice.result.now ≡ length c.in_ok-order.order.items = ap length c.as_slice.ensures.value in
    let pair : IsSamePair c.as_slice.result.now c.in-Some.i = c.in-Some.ensures in
    let one = read_hashed c.args.entries.now c.in_ok-order.order.items c.in_ok-order.ensures c.in-Some.i c.index.result.now (omega (arith, pair.inside, same)) c.index.ensures in
    let other = read_hashed c.args.entries.now c.in_ok-order.order.items c.in_ok-order.ensures (c.in-Some.i + 1) c.index-in-Some.result.now (omega (arith, pair.inside, same)) c.index-in-Some.ensures in
    let hashes : c.index.result.now.hash ≡ c.index-in-Some.result.now.hash =
    ap (λ (x : Hashed). x.hash) (c.index.ensures ∙ ap (λ (l : List Hashed). get_or l c.in-Some.i c.index.result.now) (sym c.as_slice.ensures.value)) ∙ pair.same c.index.result.now
    ∙ ap (λ (x : Hashed). x.hash) (get_or_default c.as_slice.result.now (c.in-Some.i + 1) c.index.result.now c.index-in-Some.result.now pair.inside
    ∙ ap (λ (l : List Hashed). get_or l (c.in-Some.i + 1) c.index-in-Some.result.now) c.as_slice.ensures.value ∙ sym c.index-in-Some.ensures) in
    pair_cause c.args.entries.now (kept_in g.K.Keep.keeper c.args.keep.now c.args.keep.now) c.index.result.now c.index-in-Some.result.now c.index-entries-index.result.name c.index-entries-index-in-Some.result.name
    c.same_hash_fault.result one other hashes (read_name c.args.entries.now c.index.result.now c.index-entries-index.result one c.index-entries-index.is)
    (read_name c.args.entries.now c.index-in-Some.result.now c.index-entries-index-in-Some.result other c.index-entries-index-in-Some.is) c.same_hash_fault.ensures
    (keeps_nothing g.K.Keep.keeper g.met.K.Keep.rests c.args.keep.now) (same_stops g.K.Keep.keeper g.met.K.Keep.rests c.args.keep.now)

pub keep_shard-requires-clause-order : goal.keep_shard-requires-clause-order
keep_shard-requires-clause-order g c =
    subst (IsOrder c.args.entries.now) (sym c.as_slice-2.ensures.value) (sorted_order c.args.entries.now c.in_ok-order.order.items c.in_ok-order.ensures (subst Rises c.as_slice.ensures.value c.in_default.ensures))

pub keep_shard-requires-clause-few : goal.keep_shard-requires-clause-few
keep_shard-requires-clause-few g c =
    let few = sorted_few c.args.entries.now c.in_ok-order.order.items c.in_ok-order.ensures in
    let same = ap length c.as_slice-2.ensures.value in
    omega (arith, few, same, c.requires.few)

pub keep_shard-requires-clause-tsizes : goal.keep_shard-requires-clause-tsizes
keep_shard-requires-clause-tsizes g c =
    let sums = sorted_tsizes c.args.entries.now c.in_ok-order.order.items c.in_ok-order.ensures in
    let same = ap (tsizes_in c.args.entries.now) c.as_slice-2.ensures.value in
    omega (arith, sums, same, c.requires.tsizes)

pub returns-in-Ok-clause-made : goal.returns-in-Ok-clause-made
returns-in-Ok-clause-made g c =
    directory_made c.args.entries.now c.in_ok-order.order.items c.in-Ok.made (kept_in g.K.Keep.keeper c.args.keep.now c.keep_shard.new.keep) c.in_ok-order.ensures
    (subst (λ (l : List Hashed). MakesShard c.args.entries.now l 0 c.in-Ok.made (kept_in g.K.Keep.keeper c.args.keep.now c.keep_shard.new.keep)) c.as_slice-2.ensures.value c.in-Ok.ensures.made)

pub returns-in-Ok-clause-same_hash : goal.returns-in-Ok-clause-same_hash
returns-in-Ok-clause-same_hash g c = none_passed_over c.args.entries.now c.in_ok-order.order.items c.in_ok-order.ensures (subst Rises c.as_slice.ensures.value c.in_default.ensures)

pub returns-in-Err-Failed-clause-same_hash : goal.returns-in-Err-Failed-clause-same_hash
returns-in-Err-Failed-clause-same_hash g c = none_passed_over c.args.entries.now c.in_ok-order.order.items c.in_ok-order.ensures (subst Rises c.as_slice.ensures.value c.in_default.ensures)

pub returns-in-Err-Failed-clause-cause : goal.returns-in-Err-Failed-clause-cause
returns-in-Err-Failed-clause-cause g c = (
  refl,
  directory_stops c.args.entries.now c.in_ok-order.order.items faults.Failed (kept_in g.K.Keep.keeper c.args.keep.now c.keep_shard.new.keep) c.in_ok-order.ensures
      (subst (λ (l : List Hashed). StopsShard c.args.entries.now l 0 faults.Failed (kept_in g.K.Keep.keeper c.args.keep.now c.keep_shard.new.keep)) c.as_slice-2.ensures.value (subst (λ (f : KeepFault). StopsShard c.args.entries.now c.as_slice-2.result.now 0 f (kept_in g.K.Keep.keeper c.args.keep.now c.keep_shard.new.keep)) c.in-Err-Failed.field-0-is c.in-Err-Failed.ensures.stops)),
)

pub returns-clause-cause : goal.returns-clause-cause
returns-clause-cause g c =
    directory_stops c.args.entries.now c.in_ok-order.order.items faults.OutOfMemory (kept_in g.K.Keep.keeper c.args.keep.now c.keep_shard.new.keep) c.in_ok-order.ensures
    (subst (λ (l : List Hashed). StopsShard c.args.entries.now l 0 faults.OutOfMemory (kept_in g.K.Keep.keeper c.args.keep.now c.keep_shard.new.keep)) c.as_slice-2.ensures.value (subst (λ (f : KeepFault). StopsShard c.args.entries.now c.as_slice-2.result.now 0 f (kept_in g.K.Keep.keeper c.args.keep.now c.keep_shard.new.keep)) c.in-Err-OutOfMemory.field-0-is c.in-Err-OutOfMemory.ensures.stops))
