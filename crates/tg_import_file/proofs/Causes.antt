-- Why a file isn't imported, and what is kept where it is.
use Rattle.std.proofs.Common.{◌≡◌, ℕ, List, [], ◌++◌, Option, None, Some, sym, ◌∙◌, subst}
use Rattle.std.specs.Prelude.{IfSome}
use Rattle.tg_filedag.specs.Chunks.{ChunkerState}
use Rattle.tg_filedag.specs.State.{BalancedState}
use Rattle.tg_filedag.specs.Trees.{bottom_up}
use Rattle.tg_files.specs.Folders.{FolderQuiet, FolderStep}
use Rattle.tg_import_file.proofs.Closing.{are_blocks}
use Rattle.tg_node_writing.specs.BlockOrder.{AreBehindLinks}
use Rattle.tg_node_writing.specs.KeepingSteps.{Joins, keeps_both, stops_behind}
use Rattle.tg_import_file.specs.Files.{IsFileCause, IsFileOf, KeepsFile, StopsParts, fault_of_keep}
use Rattle.tg_import_file.specs.Taking.{HasTaken, MakesFile, Stops, TakesFile}
use Rattle.tg_model_laws.specs.Stores.{KeepingJoins}
use Rattle.tg_model.specs.Content.{content}
use Rattle.tg_model.specs.Dag.{Dag, Section}
use Rattle.tg_model.specs.Stores.{KeepMeaning, Keeping, kept_in}
use Rattle.tg_model.specs.declared.kinds.Made.{Made}
use Rattle.tg_model.specs.declared.stores.KeepFault.{KeepFault}
use Rattle.tg_model.specs.declared.stores.KeepFault.TheVariants as faults
use Rattle.tg_node_writing.specs.Keeping.{Keeps}

-- a fault of keeping
pub keep_cause : (file : Option (List ℕ)) (fault : KeepFault) (step : FolderStep) (keeping : Keeping) → FolderQuiet step → StopsParts fault keeping
    → IsFileCause file (fault_of_keep fault) step keeping
keep_cause file faults.Failed step keeping quiet stop = (quiet, stop)
keep_cause file faults.OutOfMemory step keeping quiet stop = (quiet, stop)

-- a fault of keeping behind what was kept
pub keep_cause_on : {S : Type 0} → (m : KeepMeaning S) → Joins m → KeepingJoins → (x y z : S) (bytes : List ℕ) (u : List Section) (c : ChunkerState) (b : BalancedState)
    (file : Option (List ℕ)) (fault : KeepFault) (step : FolderStep) → FolderQuiet step → Keeps u (kept_in m x y) → HasTaken c b bytes u → Stops c b fault (kept_in m y z)
    → IsFileCause file (fault_of_keep fault) step (kept_in m x z)
keep_cause_on m joins stores x y z bytes u c b file fault step quiet keeps taken stops =
    let stop = stops bytes u taken in
    keep_cause file fault step (kept_in m x z) quiet (u ++ stop.0, stops_behind m joins stores x y z u stop.0 fault keeps stop.1, stop.2)

-- the content is that of the file, as far as it is told
told_as : (file : Option (List ℕ)) (bytes got : List ℕ) → IfSome file (λ content. content ≡ bytes) → got ≡ bytes → IfSome file (λ content. got ≡ content)
told_as None bytes got told is = tt
told_as (Some content) bytes got told is = is ∙ sym told

file_told : (size width : ℕ) (file : Option (List ℕ)) (bytes : List ℕ) (made : Made) (d : Dag) → IfSome file (λ content. content ≡ bytes)
    → IsFileOf size width (Some bytes) made d → IsFileOf size width file made d
file_told size width file bytes made d told h = record {
  sound = h.sound;
  laid = h.laid;
  plain = h.plain;
  content_is = told_as file bytes (content d) told h.content_is;
  shows = h.shows;
  cid = h.cid;
  size = h.size;
  tsize = h.tsize;
}

pub keeps_file : {S : Type 0} → (m : KeepMeaning S) → Joins m → KeepingJoins → (x y z : S) (file : Option (List ℕ)) (c d : ChunkerState) (b e : BalancedState) (made : Made)
    → d.size ≡ c.size → e.width ≡ b.width → TakesFile file d e (kept_in m x y) → MakesFile d e made (kept_in m y z) → KeepsFile c.size b.width file made (kept_in m x z)
keeps_file m joins stores x y z file c d b e made size width takes makes =
    let all = makes takes.bytes takes.sections takes.taken in
    let dag = all.1 in
    let told_file = subst (λ (n : ℕ). IsFileOf n b.width (Some takes.bytes) made dag) size (subst (λ (n : ℕ). IsFileOf d.size n (Some takes.bytes) made dag) width all.3) in
    record {
      d = dag;
      file = file_told c.size b.width file takes.bytes made dag takes.told told_file;
      sections = bottom_up dag;
      keeps = subst (λ (s : List Section). Keeps s (kept_in m x z)) all.4 (keeps_both m joins stores x y z takes.sections all.0 takes.keeps all.2);
      all = are_blocks dag;
      order = subst (AreBehindLinks []) all.4 all.5;
    }
