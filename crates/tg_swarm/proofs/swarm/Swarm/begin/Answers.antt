use Rattle.std.proofs.Common.{All, Err, List, Ok, [], ap, refl, subst, sym, ℕ, ◌<◌, ◌∙◌, ◌≡◌}
use Rattle.tg_model.specs.Computed.{read}
use Rattle.tg_model.specs.declared.placed.PlacedKind.{PlacedKind}
use Rattle.tg_model.specs.declared.placed.PlacedKind.TheVariants.{Basic, File, Raw, Shard, Symlink}
use Rattle.tg_streams.specs.Streams.{into}
use Rattle.tg_swarm.proofs.Events.{put_nothing, unput_still}
use Rattle.tg_swarm.proofs.Rooted.{begun, faulted, no_file, root_put}
use Rattle.tg_swarm.proofs.Rooting.{found_total, given_of, placed_file, placed_other, placed_raw}
use Rattle.tg_swarm.proofs.Unfinished.{begun_count, put_count}
use Rattle.tg_swarm.proofs.swarm.Swarm.begin.Goals as goal
use Rattle.tg_swarm.specs.Said.{IsPuttingRoot, StopsBy}
use Rattle.tg_swarm.specs.Swarms.{SwarmState}
use Rattle.tg_swarm.specs.declared.fault.SwarmFault.{SwarmFault}

pub returns-in-Ok-Raw-clause-ends : goal.returns-in-Ok-Raw-clause-ends
returns-in-Ok-Raw-clause-ends g c = λ connections r.
    let root : c.self.inside.root ≡ c.args.self.now.root = ap (λ (s : SwarmState). s.root) c.self.view_is in
    let bytes : All (λ b. b < 256) c.args.block = subst (λ (b : List ℕ). All (λ x. x < 256) b) c.as_slice.ensures c.are_bytes.ensures in
    let given = given_of c.reads_in_place.result (Ok Raw) c.as_slice-2.result.now c.args.block c.self.inside.root c.args.self.now.root
    (c.in-Ok-Raw.is ∙ ap (λ (p : PlacedKind). Ok p) c.in-Ok-Raw.field-0-is) c.as_slice-2.ensures root c.reads_in_place.ensures.given
    in
    root_put c.args.self.now c.args.block connections r bytes c.put_root.new.self
    (into g.S.Sink.sink c.args.out.now c.put_root.new.out) c.put_root.result
    (placed_raw c.args.block (read c.args.self.now.root c.args.block) given)
    (subst (λ (b : List ℕ). IsPuttingRoot c.args.self.now c.put_root.new.self b
    (into g.S.Sink.sink c.args.out.now c.put_root.new.out) c.put_root.result)
    c.as_slice-in-Ok-Raw.ensures c.put_root.ensures)

pub returns-in-Ok-File-clause-ends : goal.returns-in-Ok-File-clause-ends
returns-in-Ok-File-clause-ends g c = λ connections r.
    let root : c.self.inside.root ≡ c.args.self.now.root = ap (λ (s : SwarmState). s.root) c.self.view_is in
    let bytes : All (λ b. b < 256) c.args.block = subst (λ (b : List ℕ). All (λ x. x < 256) b) c.as_slice.ensures c.are_bytes.ensures in
    let given = given_of c.reads_in_place.result
    (Ok (File c.in-Ok-File.file)) c.as_slice-2.result.now c.args.block c.self.inside.root c.args.self.now.root
    (c.in-Ok-File.is ∙ ap (λ (p : PlacedKind). Ok p) c.in-Ok-File.field-0-is) c.as_slice-2.ensures root c.reads_in_place.ensures.given
    in
    begun c.args.self.now c.args.block connections r bytes c.begin_parts.new.self c.in-Ok-File.file.total
    (into g.S.Sink.sink c.args.out.now c.args.out.now) c.begin_parts.result
    (placed_file c.args.block c.in-Ok-File.file (read c.args.self.now.root c.args.block) given) c.begin_parts.ensures
    (put_nothing g.S.Sink.sink c.args.out.now (g.met.S.Sink.rests c.args.out.now))
    (unput_still g.S.Sink.sink c.args.out.now (g.met.S.Sink.rests c.args.out.now)) refl

pub begin_parts-requires : goal.begin_parts-requires
begin_parts-requires g c =
    found_total c.reads_in_place.result c.in-Ok-File.file c.self.inside.root c.as_slice-2.result.now
    (c.in-Ok-File.is ∙ ap (λ (p : PlacedKind). Ok p) c.in-Ok-File.field-0-is) c.reads_in_place.ensures.found

pub returns-in-Ok-Basic-clause-ends : goal.returns-in-Ok-Basic-clause-ends
returns-in-Ok-Basic-clause-ends g c = λ connections r.
    let root : c.self.inside.root ≡ c.args.self.now.root = ap (λ (s : SwarmState). s.root) c.self.view_is in
    let bytes : All (λ b. b < 256) c.args.block = subst (λ (b : List ℕ). All (λ x. x < 256) b) c.as_slice.ensures c.are_bytes.ensures in
    let given = given_of c.reads_in_place.result
    (Ok (Basic c.in-Ok-Basic.field-0-0)) c.as_slice-2.result.now c.args.block c.self.inside.root c.args.self.now.root
    (c.in-Ok-Basic.is ∙ ap (λ (p : PlacedKind). Ok p) c.in-Ok-Basic.field-0-is) c.as_slice-2.ensures root c.reads_in_place.ensures.given
    in
    no_file c.args.self.now c.args.block connections r bytes (into g.S.Sink.sink c.args.out.now c.args.out.now)
    (placed_other c.args.block (Basic c.in-Ok-Basic.field-0-0) (read c.args.self.now.root c.args.block) tt given)
    (unput_still g.S.Sink.sink c.args.out.now (g.met.S.Sink.rests c.args.out.now)) refl

pub returns-in-Ok-Shard-clause-ends : goal.returns-in-Ok-Shard-clause-ends
returns-in-Ok-Shard-clause-ends g c = λ connections r.
    let root : c.self.inside.root ≡ c.args.self.now.root = ap (λ (s : SwarmState). s.root) c.self.view_is in
    let bytes : All (λ b. b < 256) c.args.block = subst (λ (b : List ℕ). All (λ x. x < 256) b) c.as_slice.ensures c.are_bytes.ensures in
    let given = given_of c.reads_in_place.result
    (Ok (Shard c.in-Ok-Shard.field-0-0)) c.as_slice-2.result.now c.args.block c.self.inside.root c.args.self.now.root
    (c.in-Ok-Shard.is ∙ ap (λ (p : PlacedKind). Ok p) c.in-Ok-Shard.field-0-is) c.as_slice-2.ensures root c.reads_in_place.ensures.given
    in
    no_file c.args.self.now c.args.block connections r bytes (into g.S.Sink.sink c.args.out.now c.args.out.now)
    (placed_other c.args.block (Shard c.in-Ok-Shard.field-0-0) (read c.args.self.now.root c.args.block) tt given)
    (unput_still g.S.Sink.sink c.args.out.now (g.met.S.Sink.rests c.args.out.now)) refl

pub returns-in-Ok-Symlink-clause-ends : goal.returns-in-Ok-Symlink-clause-ends
returns-in-Ok-Symlink-clause-ends g c = λ connections r.
    let root : c.self.inside.root ≡ c.args.self.now.root = ap (λ (s : SwarmState). s.root) c.self.view_is in
    let bytes : All (λ b. b < 256) c.args.block = subst (λ (b : List ℕ). All (λ x. x < 256) b) c.as_slice.ensures c.are_bytes.ensures in
    let given = given_of c.reads_in_place.result
    (Ok (Symlink c.in-Ok-Symlink.field-0-0)) c.as_slice-2.result.now c.args.block c.self.inside.root c.args.self.now.root
    (c.in-Ok-Symlink.is ∙ ap (λ (p : PlacedKind). Ok p) c.in-Ok-Symlink.field-0-is) c.as_slice-2.ensures root c.reads_in_place.ensures.given
    in
    no_file c.args.self.now c.args.block connections r bytes (into g.S.Sink.sink c.args.out.now c.args.out.now)
    (placed_other c.args.block (Symlink c.in-Ok-Symlink.field-0-0) (read c.args.self.now.root c.args.block) tt given)
    (unput_still g.S.Sink.sink c.args.out.now (g.met.S.Sink.rests c.args.out.now)) refl

pub returns-clause-ends : goal.returns-clause-ends
returns-clause-ends g c = λ connections r.
    let root : c.self.inside.root ≡ c.args.self.now.root = ap (λ (s : SwarmState). s.root) c.self.view_is in
    let bytes : All (λ b. b < 256) c.args.block = subst (λ (b : List ℕ). All (λ x. x < 256) b) c.as_slice.ensures c.are_bytes.ensures in
    let given = given_of c.reads_in_place.result (Err c.in-Err.fault) c.as_slice-2.result.now c.args.block c.self.inside.root c.args.self.now.root
    (c.in-Err.is) c.as_slice-2.ensures root c.reads_in_place.ensures.given
    in
    subst (λ (f : SwarmFault). StopsBy c.args.self.now c.args.self.now connections [] (into g.S.Sink.sink c.args.out.now c.args.out.now) f)
    (sym c.of_block.ensures)
    (faulted c.args.self.now c.args.block connections r bytes c.in-Err.fault (into g.S.Sink.sink c.args.out.now c.args.out.now) given
    (unput_still g.S.Sink.sink c.args.out.now (g.met.S.Sink.rests c.args.out.now)) refl)

pub returns-in-Ok-Raw-clause-count : goal.returns-in-Ok-Raw-clause-count
returns-in-Ok-Raw-clause-count g c =
    put_count c.args.self.now c.put_root.new.self c.as_slice-in-Ok-Raw.result.now (into g.S.Sink.sink c.args.out.now c.put_root.new.out)
    c.put_root.result c.put_root.ensures

pub returns-in-Ok-File-clause-count : goal.returns-in-Ok-File-clause-count
returns-in-Ok-File-clause-count g c =
    begun_count c.args.self.now c.begin_parts.new.self c.in-Ok-File.file.total c.begin_parts.result c.begin_parts.ensures
