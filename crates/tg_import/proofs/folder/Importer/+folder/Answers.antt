use Rattle.std.proofs.Common.{◌≡◌, ◌≢◌, ℕ, ◌-◌, ◌<◌, ◌≤◌, ◌++◌, ◌∷◌, [], List, length, refl, ap, sym, ◌∙◌, subst, arith}
use Rattle.std.proofs.lemmas.Result.{IfErr-weaker, IfOk-weaker, err_from_is_err_and}
use Rattle.tg_cid.specs.Spelling.{IsDigestSize}
use Rattle.tg_dir.specs.Made.{MakesDirectory}
use Rattle.tg_import.proofs.Causes.{IsDone, cause_behind, deep_cause, done_as, done_of, entries_cause, file_sort, folder_imports, folder_sort, item_refused, led_at, list_cause, memory_behind, memory_cause, ok_both, plain_sort, so_far_whole, taken_whole, turn_at, writer_now}
use Rattle.tg_import.proofs.DirectoryRoots.{directory_codec}
use Rattle.tg_import.proofs.SoFar.{new_entries, so_far_next, so_far_none}
use Rattle.tg_import.proofs.folder.Importer.+folder.Goals.{in-File+in_ok-made-in-File, in-Folder+in_ok-made-in-Folder}
use Rattle.tg_import.proofs.folder.Importer.+folder.Goals as goal
use Rattle.tg_import.specs.Refused.{IsFileFault, RefusesFolder}
use Rattle.tg_import.specs.Steps.{AreNewEntries, IsEntriesCause, own_count_for}
use Rattle.tg_import.specs.declared.fault.ImportFault.TheVariants as faults
use Rattle.tg_import.specs.declared.fault.ImportFault.{ImportFault}
use Rattle.std.specs.Prelude.{Err, Ok, OnErr, OnOk, Result}
use Rattle.tg_files.specs.Folders.{FolderMeaning, SameFolder, folder_step}
use Rattle.tg_import.specs.Counting.{plus}
use Rattle.tg_import.specs.declared.summary.Summary.{Summary}
use Rattle.std.proofs.lemmas.List.{append-nil}
use Rattle.tg_model.specs.Dag.{Section}
use Rattle.tg_model.specs.Stores.{kept_in}
use Rattle.tg_node_writing.specs.BlockOrder.{AreBehindLinks}
use Rattle.tg_node_writing.specs.Keeping.{Keeps}
use Rattle.tg_model.specs.declared.kinds.NewEntry.{NewEntry}
use Rattle.tg_tree.specs.declared.items.Sort.TheVariants as sorts

below_next : (levels t : ℕ) → levels ≡ t → levels ≢ 0 → levels - 1 < t
below_next levels t e some = omega arith

quiet_twice : (a b c : ℕ) → b ≡ a → c ≡ b → a ≤ c
quiet_twice a b c p q = omega (arith, p, q)

behind_quiet : (a b c : ℕ) → b ≡ a → b ≤ c → a ≤ c
behind_quiet a b c p q = omega (arith, p, q)

same_twice : {S : Type 0} → (f : FolderMeaning S) (a b c : S) → SameFolder (folder_step f a b) → SameFolder (folder_step f b c) → SameFolder (folder_step f a c)
same_twice f a b c p q = record { tree = q.tree ∙ p.tree; place = q.place ∙ p.place }

-- what holds anyway, and what holds where it fails
on_ok : {T E : Type 0} → (r : Result T E) (P : Type 0) → P → OnOk r P
on_ok (Ok made) P p = p
on_ok (Err fault) P p = tt

on_err_behind : {T E : Type 0} → (r : Result T E) (a b c : ℕ) → b ≡ a → OnErr r (b ≤ c) → OnErr r (a ≤ c)
on_err_behind (Ok made) a b c p q = tt
on_err_behind (Err fault) a b c p q = behind_quiet a b c p q

pub returns-in_err-copy_of-clause-cause : goal.returns-in_err-copy_of-clause-cause
returns-in_err-copy_of-clause-cause g t c =
    let p = err_from_is_err_and c.from_residual.result c.from_residual.ensures.1 in
    rw (p.1, p.2)
    (memory_cause g.K.Keep.keeper g.F.Folder.folder g.met.K.Keep.rests c.args.keep.now c.args.folder.now c.args.folder.now
    (λ (kept : List Section) (fault : ImportFault). RefusesFolder c.args.levels c.args.self.now.options (g.F.Folder.folder.tree c.args.folder.now) c.args.path.now c.args.self.now.summary kept fault) refl)

pub returns-then-levels-eq0-clause-cause : goal.returns-then-levels-eq0-clause-cause
returns-then-levels-eq0-clause-cause g t c =
    deep_cause g.K.Keep.keeper g.F.Folder.folder g.met.K.Keep.rests c.args.keep.now c.args.folder.now c.args.levels c.args.self.now.options c.args.path.now _ c.args.self.now.summary
    c.if-levels-eq0.true c.in_ok-copy_of.ensures

pub returns-in_err-items-clause-cause : goal.returns-in_err-items-clause-cause
returns-in_err-items-clause-cause g t c =
    let p = err_from_is_err_and c.from_residual-in_err-items.result c.from_residual-in_err-items.ensures.1 in
    rw (p.1, p.2)
    (list_cause g.K.Keep.keeper g.F.Folder.folder g.met.K.Keep.rests c.args.keep.now c.args.folder.now c.listed.new.folder c.args.levels c.args.self.now.options c.args.path.now c.args.self.now.summary
    c.in_err-items.field-0.0 c.if-levels-eq0.false c.in_err-items.ensures.cause)

pub loop-item-init : goal.loop-item-init
loop-item-init g t c = (
  tt,
  tt,
  so_far_none g.K.Keep.keeper g.F.Folder.folder g.met.K.Keep.rests c.args.keep.now c.args.folder.now c.listed.new.folder c.args.self.now.options c.args.path.now c.args.self.now.writer c.args.self.now.summary
      c.new-entries.result c.in_ok-items.ensures.same c.in_ok-items.ensures.quiet c.requires.writer c.new-entries.ensures,
)

pub file-requires-clause-at : goal.file-requires-clause-at
file-requires-clause-at g t c =
    let turn = turn_at c.into_iter-item-iterator.result c.in_ok-items.items _ _ c.into_iter-item-iterator.ensures.into_iter_gives.0 c.into_iter-item-iterator.ensures.into_iter_gives.1 c.into_vec-item-items.result.ok.0 c.into_vec-item-items.ensures
    c.loop-item.yielded c.loop-item.item-iterator c.loop-item.yielded_by c.next.result c.next.new.self c.in-Some.item c.in-Some.is c.next.ensures.steps in
    let here = c.as_slice-in-File.ensures ∙ c.in_ok-at.ensures ∙ ap (λ (n : List ℕ). c.args.path.now ++ n ∷ []) c.as_slice.ensures in
    led_at g.K.Keep.keeper g.F.Folder.folder c.args.keep.now c.loop-item.keep c.args.folder.now c.loop-item.folder c.args.self.now.options c.args.path.now c.as_slice-in-File.result.now c.args.self.now.summary
    c.loop-item.self.options c.loop-item.self.writer c.loop-item.self.summary c.loop-item.yielded c.in_ok-items.items c.in-Some.item c.loop-item.entries sorts.File c.loop-item.invariant.2
    c.in_ok-items.ensures.items turn here c.in-File.is

pub returns-in_err-made-in-File-clause-cause : goal.returns-in_err-made-in-File-clause-cause
returns-in_err-made-in-File-clause-cause g t c =
    let turn = turn_at c.into_iter-item-iterator.result c.in_ok-items.items _ _ c.into_iter-item-iterator.ensures.into_iter_gives.0 c.into_iter-item-iterator.ensures.into_iter_gives.1 c.into_vec-item-items.result.ok.0 c.into_vec-item-items.ensures
    c.loop-item.yielded c.loop-item.item-iterator c.loop-item.yielded_by c.next.result c.next.new.self c.in-Some.item c.in-Some.is c.next.ensures.steps in
    let here = c.as_slice-in-File.ensures ∙ c.in_ok-at.ensures ∙ ap (λ (n : List ℕ). c.args.path.now ++ n ∷ []) c.as_slice.ensures in
    let p = err_from_is_err_and c.from_residual-in_err-made-in-File.result c.from_residual-in_err-made-in-File.ensures.1 in
    rw (p.1, p.2)
    (cause_behind g.K.Keep.keeper g.F.Folder.folder g.met.K.Keep.joins c.kept_sections.ensures.joins c.args.keep.now c.loop-item.keep c.file.new.keep c.args.folder.now c.loop-item.folder c.file.new.folder
    c.loop-item.invariant.2.sections c.loop-item.invariant.2.quiet c.loop-item.invariant.2.keeps c.loop-item.invariant.2.order (λ (kept : List Section) (fault : ImportFault). IsFileFault (g.F.Folder.folder.tree c.loop-item.folder) c.as_slice-in-File.result.now c.loop-item.self.summary kept fault) (λ (kept : List Section) (fault : ImportFault). RefusesFolder c.args.levels c.args.self.now.options (g.F.Folder.folder.tree c.args.folder.now) c.args.path.now c.args.self.now.summary kept fault) c.in_err-made-in-File.field-0.0
    (λ kept h. item_refused g.K.Keep.keeper g.F.Folder.folder c.args.keep.now c.loop-item.keep c.args.folder.now c.loop-item.folder c.args.self.now.options c.args.path.now c.args.self.now.summary
    c.loop-item.self.options c.loop-item.self.writer c.loop-item.self.summary c.loop-item.yielded c.in_ok-items.items c.in-Some.item c.loop-item.entries c.args.levels c.in_err-made-in-File.field-0.0
    c.loop-item.invariant.2 c.if-levels-eq0.false c.in_ok-items.ensures.items c.in_ok-items.ensures.names turn.below turn.is turn.front kept
    (file_sort (λ (path : List (List ℕ)) (counted : Summary) (kept : List Section) (fault : ImportFault). RefusesFolder (c.args.levels - 1) c.loop-item.self.options (g.F.Folder.folder.tree c.loop-item.folder) path counted kept fault) (g.F.Folder.folder.tree c.loop-item.folder) (c.args.path.now ++ c.in-Some.item.name ∷ []) c.as_slice-in-File.result.now c.loop-item.self.summary c.in-Some.item.sort kept
    c.in_err-made-in-File.field-0.0 here c.in-File.is h))
    c.in_err-made-in-File.ensures.cause)

pub folder-requires : goal.folder-requires
folder-requires g t c κs within =
    let turn = turn_at c.into_iter-item-iterator.result c.in_ok-items.items _ _ c.into_iter-item-iterator.ensures.into_iter_gives.0 c.into_iter-item-iterator.ensures.into_iter_gives.1 c.into_vec-item-items.result.ok.0 c.into_vec-item-items.ensures
    c.loop-item.yielded c.loop-item.item-iterator c.loop-item.yielded_by c.next.result c.next.new.self c.in-Some.item c.in-Some.is c.next.ensures.steps in
    let here = c.as_slice-in-Folder.ensures ∙ c.in_ok-at.ensures ∙ ap (λ (n : List ℕ). c.args.path.now ++ n ∷ []) c.as_slice.ensures in
    let so_far = c.loop-item.invariant.2 in (
      below_next c.args.levels t c.decreases c.if-levels-eq0.false,
      (
        within.0,
        (
          within.1,
          (
            writer_now g.K.Keep.keeper g.F.Folder.folder c.args.keep.now c.loop-item.keep c.args.folder.now c.loop-item.folder c.args.self.now.options c.args.path.now c.args.self.now.summary
                c.loop-item.self.options c.loop-item.self.writer c.loop-item.self.summary c.loop-item.yielded c.loop-item.entries so_far,
            led_at g.K.Keep.keeper g.F.Folder.folder c.args.keep.now c.loop-item.keep c.args.folder.now c.loop-item.folder c.args.self.now.options c.args.path.now c.as_slice-in-Folder.result.now c.args.self.now.summary
                c.loop-item.self.options c.loop-item.self.writer c.loop-item.self.summary c.loop-item.yielded c.in_ok-items.items c.in-Some.item c.loop-item.entries sorts.Folder c.loop-item.invariant.2
                c.in_ok-items.ensures.items turn here c.in-Folder.is,
          ),
        ),
      ),
    )

pub returns-in_err-made-in-Folder-clause-cause : goal.returns-in_err-made-in-Folder-clause-cause
returns-in_err-made-in-Folder-clause-cause g t c =
    let turn = turn_at c.into_iter-item-iterator.result c.in_ok-items.items _ _ c.into_iter-item-iterator.ensures.into_iter_gives.0 c.into_iter-item-iterator.ensures.into_iter_gives.1 c.into_vec-item-items.result.ok.0 c.into_vec-item-items.ensures
    c.loop-item.yielded c.loop-item.item-iterator c.loop-item.yielded_by c.next.result c.next.new.self c.in-Some.item c.in-Some.is c.next.ensures.steps in
    let here = c.as_slice-in-Folder.ensures ∙ c.in_ok-at.ensures ∙ ap (λ (n : List ℕ). c.args.path.now ++ n ∷ []) c.as_slice.ensures in
    let p = err_from_is_err_and c.from_residual-in_err-made-in-Folder.result c.from_residual-in_err-made-in-Folder.ensures.1 in
    rw (p.1, p.2)
    (cause_behind g.K.Keep.keeper g.F.Folder.folder g.met.K.Keep.joins c.kept_sections.ensures.joins c.args.keep.now c.loop-item.keep c.folder.new.keep c.args.folder.now c.loop-item.folder c.folder.new.folder
    c.loop-item.invariant.2.sections c.loop-item.invariant.2.quiet c.loop-item.invariant.2.keeps c.loop-item.invariant.2.order (λ (kept : List Section) (fault : ImportFault). RefusesFolder (c.args.levels - 1) c.loop-item.self.options (g.F.Folder.folder.tree c.loop-item.folder) c.as_slice-in-Folder.result.now c.loop-item.self.summary kept fault) (λ (kept : List Section) (fault : ImportFault). RefusesFolder c.args.levels c.args.self.now.options (g.F.Folder.folder.tree c.args.folder.now) c.args.path.now c.args.self.now.summary kept fault) c.in_err-made-in-Folder.field-0.0
    (λ kept h. item_refused g.K.Keep.keeper g.F.Folder.folder c.args.keep.now c.loop-item.keep c.args.folder.now c.loop-item.folder c.args.self.now.options c.args.path.now c.args.self.now.summary
    c.loop-item.self.options c.loop-item.self.writer c.loop-item.self.summary c.loop-item.yielded c.in_ok-items.items c.in-Some.item c.loop-item.entries c.args.levels c.in_err-made-in-Folder.field-0.0
    c.loop-item.invariant.2 c.if-levels-eq0.false c.in_ok-items.ensures.items c.in_ok-items.ensures.names turn.below turn.is turn.front kept
    (folder_sort (λ (path : List (List ℕ)) (counted : Summary) (kept : List Section) (fault : ImportFault). RefusesFolder (c.args.levels - 1) c.loop-item.self.options (g.F.Folder.folder.tree c.loop-item.folder) path counted kept fault) (g.F.Folder.folder.tree c.loop-item.folder) (c.args.path.now ++ c.in-Some.item.name ∷ []) c.as_slice-in-Folder.result.now c.loop-item.self.summary c.in-Some.item.sort kept
    c.in_err-made-in-Folder.field-0.0 here c.in-Folder.is h))
    c.in_err-made-in-Folder.ensures.cause)

pub returns-in-Symlink-clause-cause : goal.returns-in-Symlink-clause-cause
returns-in-Symlink-clause-cause g t c =
    let turn = turn_at c.into_iter-item-iterator.result c.in_ok-items.items _ _ c.into_iter-item-iterator.ensures.into_iter_gives.0 c.into_iter-item-iterator.ensures.into_iter_gives.1 c.into_vec-item-items.result.ok.0 c.into_vec-item-items.ensures
    c.loop-item.yielded c.loop-item.item-iterator c.loop-item.yielded_by c.next.result c.next.new.self c.in-Some.item c.in-Some.is c.next.ensures.steps in
    let here = c.in_ok-at.ensures ∙ ap (λ (n : List ℕ). c.args.path.now ++ n ∷ []) c.as_slice.ensures in
    let so_far = c.loop-item.invariant.2 in (
      so_far.quiet,
      (
        so_far.sections ++ [],
        subst (λ (l : List Section). Keeps l (kept_in g.K.Keep.keeper c.args.keep.now c.loop-item.keep)) (sym (append-nil so_far.sections)) so_far.keeps,
        subst (AreBehindLinks []) (sym (append-nil so_far.sections)) so_far.order,
        item_refused g.K.Keep.keeper g.F.Folder.folder c.args.keep.now c.loop-item.keep c.args.folder.now c.loop-item.folder c.args.self.now.options c.args.path.now c.args.self.now.summary
            c.loop-item.self.options c.loop-item.self.writer c.loop-item.self.summary c.loop-item.yielded c.in_ok-items.items c.in-Some.item c.loop-item.entries c.args.levels (faults.NotPlain c.in_ok-at.at)
            c.loop-item.invariant.2 c.if-levels-eq0.false c.in_ok-items.ensures.items c.in_ok-items.ensures.names turn.below turn.is turn.front []
            (plain_sort (λ (path : List (List ℕ)) (counted : Summary) (kept : List Section) (fault : ImportFault). RefusesFolder (c.args.levels - 1) c.loop-item.self.options (g.F.Folder.folder.tree c.loop-item.folder) path counted kept fault) (g.F.Folder.folder.tree c.loop-item.folder) (c.args.path.now ++ c.in-Some.item.name ∷ []) c.in_ok-at.at c.loop-item.self.summary c.in-Some.item.sort here c.in-Symlink.is),
      ),
    )

pub returns-in_err-push-clause-cause : goal.returns-in_err-push-clause-cause
returns-in_err-push-clause-cause g t c =
    let done : IsDone g.K.Keep.keeper g.F.Folder.folder c.loop-item.keep c.match-item.keep c.loop-item.folder c.match-item.folder c.loop-item.self.options c.match-item.self.options c.match-item.self.writer
    (c.args.path.now ++ c.in-Some.item.name ∷ []) c.loop-item.self.summary c.match-item.self.summary c.match-item.made =
    elim c.match-item.branch [
      | in-File+in_ok-made-in-File w ↦ done_as g.K.Keep.keeper g.F.Folder.folder c.loop-item.keep w.file.new.keep c.match-item.keep c.loop-item.folder w.file.new.folder c.match-item.folder c.loop-item.self.options (c.args.path.now ++ c.in-Some.item.name ∷ []) c.loop-item.self.summary
          w.file.new.self c.match-item.self _ c.match-item.made w.keep-is w.folder-is w.self-is w.made-is
          (done_of g.K.Keep.keeper g.F.Folder.folder c.loop-item.keep w.file.new.keep c.loop-item.folder w.file.new.folder c.loop-item.self.options w.file.new.self.options w.file.new.self.writer w.as_slice-in-File.result.now
          (c.args.path.now ++ c.in-Some.item.name ∷ []) c.loop-item.self.summary w.file.new.self.summary _
          (w.as_slice-in-File.ensures ∙ c.in_ok-at.ensures ∙ ap (λ (n : List ℕ). c.args.path.now ++ n ∷ []) c.as_slice.ensures)
          w.in_ok-made-in-File.ensures.same w.in_ok-made-in-File.ensures.quiet w.in_ok-made-in-File.ensures.options w.in_ok-made-in-File.ensures.writer w.in_ok-made-in-File.ensures.imported)
      | in-Folder+in_ok-made-in-Folder w ↦ done_as g.K.Keep.keeper g.F.Folder.folder c.loop-item.keep w.folder.new.keep c.match-item.keep c.loop-item.folder w.folder.new.folder c.match-item.folder c.loop-item.self.options (c.args.path.now ++ c.in-Some.item.name ∷ []) c.loop-item.self.summary
          w.folder.new.self c.match-item.self _ c.match-item.made w.keep-is w.folder-is w.self-is w.made-is
          (done_of g.K.Keep.keeper g.F.Folder.folder c.loop-item.keep w.folder.new.keep c.loop-item.folder w.folder.new.folder c.loop-item.self.options w.folder.new.self.options w.folder.new.self.writer w.as_slice-in-Folder.result.now
          (c.args.path.now ++ c.in-Some.item.name ∷ []) c.loop-item.self.summary w.folder.new.self.summary _
          (w.as_slice-in-Folder.ensures ∙ c.in_ok-at.ensures ∙ ap (λ (n : List ℕ). c.args.path.now ++ n ∷ []) c.as_slice.ensures)
          w.in_ok-made-in-Folder.ensures.same w.in_ok-made-in-Folder.ensures.quiet w.in_ok-made-in-Folder.ensures.options w.in_ok-made-in-Folder.ensures.writer w.in_ok-made-in-Folder.ensures.imported)
    ] in
    let p = err_from_is_err_and c.from_residual-in_err-push.result c.from_residual-in_err-push.ensures.1 in
    rw (p.1, p.2)
    (memory_behind g.K.Keep.keeper g.F.Folder.folder g.met.K.Keep.joins g.met.K.Keep.rests c.kept_sections.ensures.joins c.args.keep.now c.loop-item.keep c.match-item.keep c.args.folder.now c.loop-item.folder c.match-item.folder
    c.args.self.now.options c.args.path.now (c.args.path.now ++ c.in-Some.item.name ∷ []) c.args.self.now.summary c.loop-item.self.options c.match-item.self.options c.loop-item.self.writer c.match-item.self.writer c.loop-item.self.summary c.match-item.self.summary
    c.loop-item.yielded c.loop-item.entries c.match-item.made (λ (kept : List Section) (fault : ImportFault). RefusesFolder c.args.levels c.args.self.now.options (g.F.Folder.folder.tree c.args.folder.now) c.args.path.now c.args.self.now.summary kept fault) c.loop-item.invariant.2 done)

pub returns-in_err-push-clause-err_counted : goal.returns-in_err-push-clause-err_counted
returns-in_err-push-clause-err_counted g t c =
    let done : IsDone g.K.Keep.keeper g.F.Folder.folder c.loop-item.keep c.match-item.keep c.loop-item.folder c.match-item.folder c.loop-item.self.options c.match-item.self.options c.match-item.self.writer
    (c.args.path.now ++ c.in-Some.item.name ∷ []) c.loop-item.self.summary c.match-item.self.summary c.match-item.made =
    elim c.match-item.branch [
      | in-File+in_ok-made-in-File w ↦ done_as g.K.Keep.keeper g.F.Folder.folder c.loop-item.keep w.file.new.keep c.match-item.keep c.loop-item.folder w.file.new.folder c.match-item.folder c.loop-item.self.options (c.args.path.now ++ c.in-Some.item.name ∷ []) c.loop-item.self.summary
          w.file.new.self c.match-item.self _ c.match-item.made w.keep-is w.folder-is w.self-is w.made-is
          (done_of g.K.Keep.keeper g.F.Folder.folder c.loop-item.keep w.file.new.keep c.loop-item.folder w.file.new.folder c.loop-item.self.options w.file.new.self.options w.file.new.self.writer w.as_slice-in-File.result.now
          (c.args.path.now ++ c.in-Some.item.name ∷ []) c.loop-item.self.summary w.file.new.self.summary _
          (w.as_slice-in-File.ensures ∙ c.in_ok-at.ensures ∙ ap (λ (n : List ℕ). c.args.path.now ++ n ∷ []) c.as_slice.ensures)
          w.in_ok-made-in-File.ensures.same w.in_ok-made-in-File.ensures.quiet w.in_ok-made-in-File.ensures.options w.in_ok-made-in-File.ensures.writer w.in_ok-made-in-File.ensures.imported)
      | in-Folder+in_ok-made-in-Folder w ↦ done_as g.K.Keep.keeper g.F.Folder.folder c.loop-item.keep w.folder.new.keep c.match-item.keep c.loop-item.folder w.folder.new.folder c.match-item.folder c.loop-item.self.options (c.args.path.now ++ c.in-Some.item.name ∷ []) c.loop-item.self.summary
          w.folder.new.self c.match-item.self _ c.match-item.made w.keep-is w.folder-is w.self-is w.made-is
          (done_of g.K.Keep.keeper g.F.Folder.folder c.loop-item.keep w.folder.new.keep c.loop-item.folder w.folder.new.folder c.loop-item.self.options w.folder.new.self.options w.folder.new.self.writer w.as_slice-in-Folder.result.now
          (c.args.path.now ++ c.in-Some.item.name ∷ []) c.loop-item.self.summary w.folder.new.self.summary _
          (w.as_slice-in-Folder.ensures ∙ c.in_ok-at.ensures ∙ ap (λ (n : List ℕ). c.args.path.now ++ n ∷ []) c.as_slice.ensures)
          w.in_ok-made-in-Folder.ensures.same w.in_ok-made-in-Folder.ensures.quiet w.in_ok-made-in-Folder.ensures.options w.in_ok-made-in-Folder.ensures.writer w.in_ok-made-in-Folder.ensures.imported)
    ] in
    let p = err_from_is_err_and c.from_residual-in_err-push.result c.from_residual-in_err-push.ensures.1 in
    rw (p.1)
    (quiet_twice (g.K.Keep.keeper.faults c.args.keep.now) (g.K.Keep.keeper.faults c.loop-item.keep) (g.K.Keep.keeper.faults c.match-item.keep)
    c.loop-item.invariant.2.keeps.quiet done.imports.kept.keeps.quiet)

pub loop-item-preserved : goal.loop-item-preserved
loop-item-preserved g t c =
    let done : IsDone g.K.Keep.keeper g.F.Folder.folder c.loop-item.keep c.match-item.keep c.loop-item.folder c.match-item.folder c.loop-item.self.options c.match-item.self.options c.match-item.self.writer
    (c.args.path.now ++ c.in-Some.item.name ∷ []) c.loop-item.self.summary c.match-item.self.summary c.match-item.made =
    elim c.match-item.branch [
      | in-File+in_ok-made-in-File w ↦ done_as g.K.Keep.keeper g.F.Folder.folder c.loop-item.keep w.file.new.keep c.match-item.keep c.loop-item.folder w.file.new.folder c.match-item.folder c.loop-item.self.options (c.args.path.now ++ c.in-Some.item.name ∷ []) c.loop-item.self.summary
          w.file.new.self c.match-item.self _ c.match-item.made w.keep-is w.folder-is w.self-is w.made-is
          (done_of g.K.Keep.keeper g.F.Folder.folder c.loop-item.keep w.file.new.keep c.loop-item.folder w.file.new.folder c.loop-item.self.options w.file.new.self.options w.file.new.self.writer w.as_slice-in-File.result.now
          (c.args.path.now ++ c.in-Some.item.name ∷ []) c.loop-item.self.summary w.file.new.self.summary _
          (w.as_slice-in-File.ensures ∙ c.in_ok-at.ensures ∙ ap (λ (n : List ℕ). c.args.path.now ++ n ∷ []) c.as_slice.ensures)
          w.in_ok-made-in-File.ensures.same w.in_ok-made-in-File.ensures.quiet w.in_ok-made-in-File.ensures.options w.in_ok-made-in-File.ensures.writer w.in_ok-made-in-File.ensures.imported)
      | in-Folder+in_ok-made-in-Folder w ↦ done_as g.K.Keep.keeper g.F.Folder.folder c.loop-item.keep w.folder.new.keep c.match-item.keep c.loop-item.folder w.folder.new.folder c.match-item.folder c.loop-item.self.options (c.args.path.now ++ c.in-Some.item.name ∷ []) c.loop-item.self.summary
          w.folder.new.self c.match-item.self _ c.match-item.made w.keep-is w.folder-is w.self-is w.made-is
          (done_of g.K.Keep.keeper g.F.Folder.folder c.loop-item.keep w.folder.new.keep c.loop-item.folder w.folder.new.folder c.loop-item.self.options w.folder.new.self.options w.folder.new.self.writer w.as_slice-in-Folder.result.now
          (c.args.path.now ++ c.in-Some.item.name ∷ []) c.loop-item.self.summary w.folder.new.self.summary _
          (w.as_slice-in-Folder.ensures ∙ c.in_ok-at.ensures ∙ ap (λ (n : List ℕ). c.args.path.now ++ n ∷ []) c.as_slice.ensures)
          w.in_ok-made-in-Folder.ensures.same w.in_ok-made-in-Folder.ensures.quiet w.in_ok-made-in-Folder.ensures.options w.in_ok-made-in-Folder.ensures.writer w.in_ok-made-in-Folder.ensures.imported)
    ] in
    let size : IsDigestSize c.match-item.made.cid.hash (length c.match-item.made.cid.digest) =
    subst (λ (l : List ℕ). IsDigestSize c.match-item.made.cid.hash (length l)) c.digest.ensures.digest c.digest.ensures.size in (
      tt,
      tt,
      so_far_next g.K.Keep.keeper g.F.Folder.folder g.met.K.Keep.joins c.kept_sections.ensures.joins c.args.keep.now c.loop-item.keep c.match-item.keep c.args.folder.now c.loop-item.folder c.match-item.folder
          c.args.self.now.options c.args.path.now (c.args.path.now ++ c.in-Some.item.name ∷ []) c.args.self.now.summary c.loop-item.self.options c.match-item.self.options c.loop-item.self.writer c.match-item.self.writer c.loop-item.self.summary c.match-item.self.summary
          c.loop-item.yielded c.in-Some.item c.loop-item.entries c.push.new.self c.match-item.made c.loop-item.invariant.2 done.imports size refl done.same done.quiet done.options_are done.ready c.in_ok-push.ensures.ok,
    )

pub directory-requires-clause-entries : goal.directory-requires-clause-entries
directory-requires-clause-entries g t c =
    let whole = taken_whole c.into_iter-item-iterator.result c.in_ok-items.items _ _ c.into_iter-item-iterator.ensures.into_iter_gives.0 c.into_iter-item-iterator.ensures.into_iter_gives.1 c.into_vec-item-items.result.ok.0 c.into_vec-item-items.ensures
    c.loop-item.yielded c.loop-item.item-iterator c.loop-item.yielded_by c.next.result c.next.new.self c.in-None.is c.next.ensures.steps in
    let so_far = so_far_whole whole c.loop-item.invariant.2 in
    subst AreNewEntries (sym c.as_slice-2.ensures)
    (new_entries c.args.self.now.options (g.F.Folder.folder.tree c.args.folder.now) c.args.path.now c.loop-item.entries c.in_ok-items.items so_far.children so_far.imported so_far.lead so_far.names
    c.in_ok-items.ensures.names c.in_ok-items.ensures.few)

pub returns-clause-imported : goal.returns-clause-imported
returns-clause-imported g t c =
    let whole = taken_whole c.into_iter-item-iterator.result c.in_ok-items.items _ _ c.into_iter-item-iterator.ensures.into_iter_gives.0 c.into_iter-item-iterator.ensures.into_iter_gives.1 c.into_vec-item-items.result.ok.0 c.into_vec-item-items.ensures
    c.loop-item.yielded c.loop-item.item-iterator c.loop-item.yielded_by c.next.result c.next.new.self c.in-None.is c.next.ensures.steps in
    let so_far = so_far_whole whole c.loop-item.invariant.2 in
    ok_both c.directory.result
    (λ made makes later. folder_imports g.K.Keep.keeper g.F.Folder.folder g.met.K.Keep.joins c.kept_sections.ensures.joins c.args.keep.now c.loop-item.keep c.directory.new.keep c.args.folder.now c.loop-item.folder
    c.args.self.now.options c.args.path.now c.args.self.now.summary c.loop-item.self.options c.loop-item.self.writer c.loop-item.self.summary c.directory.new.self.summary c.in_ok-items.items c.loop-item.entries made so_far
    c.requires.at c.in_ok-items.ensures.items
    (subst (λ (l : List NewEntry). MakesDirectory c.loop-item.self.options.shard l made (kept_in g.K.Keep.keeper c.loop-item.keep c.directory.new.keep)) c.as_slice-2.ensures makes)
    (subst (λ (l : List NewEntry). c.directory.new.self.summary ≡ plus c.loop-item.self.summary (own_count_for c.loop-item.self.options.shard l)) c.as_slice-2.ensures later)) c.directory.ensures.made c.directory.ensures.counted

pub returns-clause-directory : goal.returns-clause-directory
returns-clause-directory g t c =
    let whole = taken_whole c.into_iter-item-iterator.result c.in_ok-items.items _ _ c.into_iter-item-iterator.ensures.into_iter_gives.0 c.into_iter-item-iterator.ensures.into_iter_gives.1 c.into_vec-item-items.result.ok.0 c.into_vec-item-items.ensures
    c.loop-item.yielded c.loop-item.item-iterator c.loop-item.yielded_by c.next.result c.next.new.self c.in-None.is c.next.ensures.steps in
    let so_far = so_far_whole whole c.loop-item.invariant.2 in
    IfOk-weaker c.directory.result _ _
    (λ made makes. directory_codec c.args.self.now.options (g.F.Folder.folder.tree c.args.folder.now) c.args.path.now c.in_ok-items.items c.loop-item.entries so_far.children c.loop-item.self.options.shard made
    (kept_in g.K.Keep.keeper c.loop-item.keep c.directory.new.keep) so_far.imported so_far.lead
    (subst (λ (l : List NewEntry). MakesDirectory c.loop-item.self.options.shard l made (kept_in g.K.Keep.keeper c.loop-item.keep c.directory.new.keep)) c.as_slice-2.ensures makes)) c.directory.ensures.made

pub returns-clause-cause : goal.returns-clause-cause
returns-clause-cause g t c =
    let whole = taken_whole c.into_iter-item-iterator.result c.in_ok-items.items _ _ c.into_iter-item-iterator.ensures.into_iter_gives.0 c.into_iter-item-iterator.ensures.into_iter_gives.1 c.into_vec-item-items.result.ok.0 c.into_vec-item-items.ensures
    c.loop-item.yielded c.loop-item.item-iterator c.loop-item.yielded_by c.next.result c.next.new.self c.in-None.is c.next.ensures.steps in
    let so_far = so_far_whole whole c.loop-item.invariant.2 in
    IfErr-weaker c.directory.result _ _
    (λ fault h. entries_cause g.K.Keep.keeper g.F.Folder.folder g.met.K.Keep.joins c.kept_sections.ensures.joins c.args.keep.now c.loop-item.keep c.directory.new.keep c.args.folder.now c.loop-item.folder
    c.args.self.now.options c.args.path.now c.args.self.now.summary c.loop-item.self.options c.loop-item.self.writer c.loop-item.self.summary c.in_ok-items.items c.loop-item.entries c.args.levels fault so_far
    c.if-levels-eq0.false c.in_ok-items.ensures.items c.in_ok-items.ensures.names
    (subst (λ (l : List NewEntry). IsEntriesCause c.loop-item.self.options.shard c.args.path.now c.loop-item.self.summary l fault (kept_in g.K.Keep.keeper c.loop-item.keep c.directory.new.keep)) c.as_slice-2.ensures h)) c.directory.ensures.cause

pub returns-in_err-copy_of-clause-writer : goal.returns-in_err-copy_of-clause-writer
returns-in_err-copy_of-clause-writer g t c = rw ((err_from_is_err_and c.from_residual.result c.from_residual.ensures.1).1) tt

pub returns-in_err-copy_of-clause-imported : goal.returns-in_err-copy_of-clause-imported
returns-in_err-copy_of-clause-imported g t c = rw ((err_from_is_err_and c.from_residual.result c.from_residual.ensures.1).1) tt

pub returns-in_err-copy_of-clause-directory : goal.returns-in_err-copy_of-clause-directory
returns-in_err-copy_of-clause-directory g t c = rw ((err_from_is_err_and c.from_residual.result c.from_residual.ensures.1).1) tt

pub returns-in_err-copy_of-clause-small : goal.returns-in_err-copy_of-clause-small
returns-in_err-copy_of-clause-small g t c = rw ((err_from_is_err_and c.from_residual.result c.from_residual.ensures.1).1) tt

pub returns-in_err-copy_of-clause-quiet : goal.returns-in_err-copy_of-clause-quiet
returns-in_err-copy_of-clause-quiet g t c = rw ((err_from_is_err_and c.from_residual.result c.from_residual.ensures.1).1) tt

pub returns-in_err-items-clause-writer : goal.returns-in_err-items-clause-writer
returns-in_err-items-clause-writer g t c = rw ((err_from_is_err_and c.from_residual-in_err-items.result c.from_residual-in_err-items.ensures.1).1) tt

pub returns-in_err-items-clause-imported : goal.returns-in_err-items-clause-imported
returns-in_err-items-clause-imported g t c = rw ((err_from_is_err_and c.from_residual-in_err-items.result c.from_residual-in_err-items.ensures.1).1) tt

pub returns-in_err-items-clause-directory : goal.returns-in_err-items-clause-directory
returns-in_err-items-clause-directory g t c = rw ((err_from_is_err_and c.from_residual-in_err-items.result c.from_residual-in_err-items.ensures.1).1) tt

pub returns-in_err-items-clause-small : goal.returns-in_err-items-clause-small
returns-in_err-items-clause-small g t c = rw ((err_from_is_err_and c.from_residual-in_err-items.result c.from_residual-in_err-items.ensures.1).1) tt

pub returns-in_err-items-clause-quiet : goal.returns-in_err-items-clause-quiet
returns-in_err-items-clause-quiet g t c = rw ((err_from_is_err_and c.from_residual-in_err-items.result c.from_residual-in_err-items.ensures.1).1) tt

pub returns-in_err-items-clause-untouched : goal.returns-in_err-items-clause-untouched
returns-in_err-items-clause-untouched g t c = λ e. absurd (c.if-levels-eq0.false e)

pub returns-in_err-at-clause-writer : goal.returns-in_err-at-clause-writer
returns-in_err-at-clause-writer g t c = rw ((err_from_is_err_and c.from_residual-in_err-at.result c.from_residual-in_err-at.ensures.1).1) tt

pub returns-in_err-at-clause-imported : goal.returns-in_err-at-clause-imported
returns-in_err-at-clause-imported g t c = rw ((err_from_is_err_and c.from_residual-in_err-at.result c.from_residual-in_err-at.ensures.1).1) tt

pub returns-in_err-at-clause-directory : goal.returns-in_err-at-clause-directory
returns-in_err-at-clause-directory g t c = rw ((err_from_is_err_and c.from_residual-in_err-at.result c.from_residual-in_err-at.ensures.1).1) tt

pub returns-in_err-at-clause-small : goal.returns-in_err-at-clause-small
returns-in_err-at-clause-small g t c = rw ((err_from_is_err_and c.from_residual-in_err-at.result c.from_residual-in_err-at.ensures.1).1) tt

pub returns-in_err-at-clause-quiet : goal.returns-in_err-at-clause-quiet
returns-in_err-at-clause-quiet g t c = rw ((err_from_is_err_and c.from_residual-in_err-at.result c.from_residual-in_err-at.ensures.1).1) tt

pub returns-in_err-at-clause-options : goal.returns-in_err-at-clause-options
returns-in_err-at-clause-options g t c = c.loop-item.invariant.2.options_are

pub returns-in_err-at-clause-same : goal.returns-in_err-at-clause-same
returns-in_err-at-clause-same g t c = c.loop-item.invariant.2.same

pub returns-in_err-at-clause-untouched : goal.returns-in_err-at-clause-untouched
returns-in_err-at-clause-untouched g t c = λ e. absurd (c.if-levels-eq0.false e)

pub returns-in_err-at-clause-err_counted : goal.returns-in_err-at-clause-err_counted
returns-in_err-at-clause-err_counted g t c =
    rw ((err_from_is_err_and c.from_residual-in_err-at.result c.from_residual-in_err-at.ensures.1).1) (quiet_twice (g.K.Keep.keeper.faults c.args.keep.now) (g.K.Keep.keeper.faults c.loop-item.keep) (g.K.Keep.keeper.faults c.loop-item.keep) c.loop-item.invariant.2.keeps.quiet refl)

pub returns-in_err-made-in-File-clause-writer : goal.returns-in_err-made-in-File-clause-writer
returns-in_err-made-in-File-clause-writer g t c = rw ((err_from_is_err_and c.from_residual-in_err-made-in-File.result c.from_residual-in_err-made-in-File.ensures.1).1) tt

pub returns-in_err-made-in-File-clause-imported : goal.returns-in_err-made-in-File-clause-imported
returns-in_err-made-in-File-clause-imported g t c = rw ((err_from_is_err_and c.from_residual-in_err-made-in-File.result c.from_residual-in_err-made-in-File.ensures.1).1) tt

pub returns-in_err-made-in-File-clause-directory : goal.returns-in_err-made-in-File-clause-directory
returns-in_err-made-in-File-clause-directory g t c = rw ((err_from_is_err_and c.from_residual-in_err-made-in-File.result c.from_residual-in_err-made-in-File.ensures.1).1) tt

pub returns-in_err-made-in-File-clause-small : goal.returns-in_err-made-in-File-clause-small
returns-in_err-made-in-File-clause-small g t c = rw ((err_from_is_err_and c.from_residual-in_err-made-in-File.result c.from_residual-in_err-made-in-File.ensures.1).1) tt

pub returns-in_err-made-in-File-clause-quiet : goal.returns-in_err-made-in-File-clause-quiet
returns-in_err-made-in-File-clause-quiet g t c = rw ((err_from_is_err_and c.from_residual-in_err-made-in-File.result c.from_residual-in_err-made-in-File.ensures.1).1) tt

pub returns-in_err-made-in-File-clause-options : goal.returns-in_err-made-in-File-clause-options
returns-in_err-made-in-File-clause-options g t c = c.in_err-made-in-File.ensures.options ∙ c.loop-item.invariant.2.options_are

pub returns-in_err-made-in-File-clause-same : goal.returns-in_err-made-in-File-clause-same
returns-in_err-made-in-File-clause-same g t c = same_twice g.F.Folder.folder c.args.folder.now c.loop-item.folder c.file.new.folder c.loop-item.invariant.2.same c.in_err-made-in-File.ensures.same

pub returns-in_err-made-in-File-clause-untouched : goal.returns-in_err-made-in-File-clause-untouched
returns-in_err-made-in-File-clause-untouched g t c = λ e. absurd (c.if-levels-eq0.false e)

pub returns-in_err-made-in-File-clause-err_counted : goal.returns-in_err-made-in-File-clause-err_counted
returns-in_err-made-in-File-clause-err_counted g t c =
    rw ((err_from_is_err_and c.from_residual-in_err-made-in-File.result c.from_residual-in_err-made-in-File.ensures.1).1) (behind_quiet (g.K.Keep.keeper.faults c.args.keep.now) (g.K.Keep.keeper.faults c.loop-item.keep) (g.K.Keep.keeper.faults c.file.new.keep) c.loop-item.invariant.2.keeps.quiet c.in_err-made-in-File.ensures.err_counted)

pub returns-in_err-made-in-Folder-clause-writer : goal.returns-in_err-made-in-Folder-clause-writer
returns-in_err-made-in-Folder-clause-writer g t c = rw ((err_from_is_err_and c.from_residual-in_err-made-in-Folder.result c.from_residual-in_err-made-in-Folder.ensures.1).1) tt

pub returns-in_err-made-in-Folder-clause-imported : goal.returns-in_err-made-in-Folder-clause-imported
returns-in_err-made-in-Folder-clause-imported g t c = rw ((err_from_is_err_and c.from_residual-in_err-made-in-Folder.result c.from_residual-in_err-made-in-Folder.ensures.1).1) tt

pub returns-in_err-made-in-Folder-clause-directory : goal.returns-in_err-made-in-Folder-clause-directory
returns-in_err-made-in-Folder-clause-directory g t c = rw ((err_from_is_err_and c.from_residual-in_err-made-in-Folder.result c.from_residual-in_err-made-in-Folder.ensures.1).1) tt

pub returns-in_err-made-in-Folder-clause-small : goal.returns-in_err-made-in-Folder-clause-small
returns-in_err-made-in-Folder-clause-small g t c = rw ((err_from_is_err_and c.from_residual-in_err-made-in-Folder.result c.from_residual-in_err-made-in-Folder.ensures.1).1) tt

pub returns-in_err-made-in-Folder-clause-quiet : goal.returns-in_err-made-in-Folder-clause-quiet
returns-in_err-made-in-Folder-clause-quiet g t c = rw ((err_from_is_err_and c.from_residual-in_err-made-in-Folder.result c.from_residual-in_err-made-in-Folder.ensures.1).1) tt

pub returns-in_err-made-in-Folder-clause-options : goal.returns-in_err-made-in-Folder-clause-options
returns-in_err-made-in-Folder-clause-options g t c = c.in_err-made-in-Folder.ensures.options ∙ c.loop-item.invariant.2.options_are

pub returns-in_err-made-in-Folder-clause-same : goal.returns-in_err-made-in-Folder-clause-same
returns-in_err-made-in-Folder-clause-same g t c = same_twice g.F.Folder.folder c.args.folder.now c.loop-item.folder c.folder.new.folder c.loop-item.invariant.2.same c.in_err-made-in-Folder.ensures.same

pub returns-in_err-made-in-Folder-clause-untouched : goal.returns-in_err-made-in-Folder-clause-untouched
returns-in_err-made-in-Folder-clause-untouched g t c = λ e. absurd (c.if-levels-eq0.false e)

pub returns-in_err-made-in-Folder-clause-err_counted : goal.returns-in_err-made-in-Folder-clause-err_counted
returns-in_err-made-in-Folder-clause-err_counted g t c =
    rw ((err_from_is_err_and c.from_residual-in_err-made-in-Folder.result c.from_residual-in_err-made-in-Folder.ensures.1).1) (behind_quiet (g.K.Keep.keeper.faults c.args.keep.now) (g.K.Keep.keeper.faults c.loop-item.keep) (g.K.Keep.keeper.faults c.folder.new.keep) c.loop-item.invariant.2.keeps.quiet c.in_err-made-in-Folder.ensures.err_counted)

pub returns-in-Symlink-clause-writer : goal.returns-in-Symlink-clause-writer
returns-in-Symlink-clause-writer g t c = tt

pub returns-in-Symlink-clause-imported : goal.returns-in-Symlink-clause-imported
returns-in-Symlink-clause-imported g t c = tt

pub returns-in-Symlink-clause-directory : goal.returns-in-Symlink-clause-directory
returns-in-Symlink-clause-directory g t c = tt

pub returns-in-Symlink-clause-small : goal.returns-in-Symlink-clause-small
returns-in-Symlink-clause-small g t c = tt

pub returns-in-Symlink-clause-quiet : goal.returns-in-Symlink-clause-quiet
returns-in-Symlink-clause-quiet g t c = tt

pub returns-in-Symlink-clause-options : goal.returns-in-Symlink-clause-options
returns-in-Symlink-clause-options g t c = c.loop-item.invariant.2.options_are

pub returns-in-Symlink-clause-same : goal.returns-in-Symlink-clause-same
returns-in-Symlink-clause-same g t c = c.loop-item.invariant.2.same

pub returns-in-Symlink-clause-untouched : goal.returns-in-Symlink-clause-untouched
returns-in-Symlink-clause-untouched g t c = λ e. absurd (c.if-levels-eq0.false e)

pub returns-in-Symlink-clause-err_counted : goal.returns-in-Symlink-clause-err_counted
returns-in-Symlink-clause-err_counted g t c = quiet_twice (g.K.Keep.keeper.faults c.args.keep.now) (g.K.Keep.keeper.faults c.loop-item.keep) (g.K.Keep.keeper.faults c.loop-item.keep) c.loop-item.invariant.2.keeps.quiet refl

pub returns-in_err-push-clause-writer : goal.returns-in_err-push-clause-writer
returns-in_err-push-clause-writer g t c = rw ((err_from_is_err_and c.from_residual-in_err-push.result c.from_residual-in_err-push.ensures.1).1) tt

pub returns-in_err-push-clause-imported : goal.returns-in_err-push-clause-imported
returns-in_err-push-clause-imported g t c = rw ((err_from_is_err_and c.from_residual-in_err-push.result c.from_residual-in_err-push.ensures.1).1) tt

pub returns-in_err-push-clause-directory : goal.returns-in_err-push-clause-directory
returns-in_err-push-clause-directory g t c = rw ((err_from_is_err_and c.from_residual-in_err-push.result c.from_residual-in_err-push.ensures.1).1) tt

pub returns-in_err-push-clause-small : goal.returns-in_err-push-clause-small
returns-in_err-push-clause-small g t c = rw ((err_from_is_err_and c.from_residual-in_err-push.result c.from_residual-in_err-push.ensures.1).1) tt

pub returns-in_err-push-clause-quiet : goal.returns-in_err-push-clause-quiet
returns-in_err-push-clause-quiet g t c = rw ((err_from_is_err_and c.from_residual-in_err-push.result c.from_residual-in_err-push.ensures.1).1) tt

pub returns-in_err-push-clause-untouched : goal.returns-in_err-push-clause-untouched
returns-in_err-push-clause-untouched g t c = λ e. absurd (c.if-levels-eq0.false e)

pub returns-clause-options : goal.returns-clause-options
returns-clause-options g t c = c.directory.ensures.options ∙ c.loop-item.invariant.2.options_are

pub returns-clause-small : goal.returns-clause-small
returns-clause-small g t c = c.directory.ensures.small

pub returns-clause-quiet : goal.returns-clause-quiet
returns-clause-quiet g t c = on_ok c.directory.result _ c.loop-item.invariant.2.quiet

pub returns-clause-same : goal.returns-clause-same
returns-clause-same g t c = c.loop-item.invariant.2.same

pub returns-clause-untouched : goal.returns-clause-untouched
returns-clause-untouched g t c = λ e. absurd (c.if-levels-eq0.false e)

pub returns-clause-err_counted : goal.returns-clause-err_counted
returns-clause-err_counted g t c = on_err_behind c.directory.result (g.K.Keep.keeper.faults c.args.keep.now) (g.K.Keep.keeper.faults c.loop-item.keep) (g.K.Keep.keeper.faults c.directory.new.keep) c.loop-item.invariant.2.keeps.quiet c.directory.ensures.err_counted

pub file-requires-clause-writer : goal.file-requires-clause-writer
file-requires-clause-writer g t c =
    writer_now g.K.Keep.keeper g.F.Folder.folder c.args.keep.now c.loop-item.keep c.args.folder.now c.loop-item.folder c.args.self.now.options c.args.path.now c.args.self.now.summary
    c.loop-item.self.options c.loop-item.self.writer c.loop-item.self.summary c.loop-item.yielded c.loop-item.entries c.loop-item.invariant.2
