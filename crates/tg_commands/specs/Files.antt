-- The folder and the pack that a command is handed; the pack is given back.
use Rattle.std.specs.Prelude.{◌≡◌, Option, Some, None}
use Rattle.tg_files.specs.Folders.{FolderMeaning, FolderStep, folder_step}
use Rattle.tg_files.specs.Packs.{PackMeaning, PackStep, pack_step}

-- what became of a folder and of a pack between two moments, and whether each is the one that it was
pub record Files : Type 1 where
  pub folder : FolderStep
  pub same_folder : Type 0
  pub pack : PackStep
  pub same_pack : Type 0

-- of a pack that is there before and after
abbrev pub given_back : {P : Type 0} → PackMeaning P → Option P → Option P → PackStep
given_back m (Some old) (Some new) = pack_step m old new
given_back m None new = record { did = λ writes. ⊥; content_old = None; content_new = None; place_old = None; place_new = None; faults_old = 0; faults_new = 0; calls_old = None; calls_new = None }
given_back m (Some old) None = record { did = λ writes. ⊥; content_old = None; content_new = None; place_old = None; place_new = None; faults_old = 0; faults_new = 0; calls_old = None; calls_new = None }

abbrev pub files_between : {F P : Type 0} → FolderMeaning F → PackMeaning P → F → F → Option P → Option P → Files
files_between folders packs folder folder' pack pack' = record {
  folder = folder_step folders folder folder';
  same_folder = folder' ≡ folder;
  pack = given_back packs pack pack';
  same_pack = pack' ≡ pack;
}

-- the folder and the pack are those that they were
pub record SameFiles (files : Files) : Type 0 where
  pub folder : files.same_folder
  pub pack : files.same_pack
