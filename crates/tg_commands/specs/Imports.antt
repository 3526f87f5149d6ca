-- `import`: a folder goes into a pack.
use Rattle.std.specs.Prelude.{◌≡◌, ◌⊎◌, ℕ, ⊤, ◌∷◌, ◌++◌, [], List, Option, Some, None, IfSome, codes, decimal, true}
use Rattle.std.specs.List.{flat_map}
use Rattle.tg_commands.specs.Blocks.{OutputUntouched}
use Rattle.tg_commands.specs.CidLines.{TextLine}
use Rattle.tg_commands.specs.Lines.{PutAll}
use Rattle.tg_commands.specs.Files.{Files}
use Rattle.tg_commands.specs.declared.fault.CommandFault.{CommandFault}
use Rattle.tg_commands.specs.declared.fault.CommandFault.TheVariants as refusals
use Rattle.tg_bytes.specs.Ascii.{line_feed, slash}
use Rattle.tg_cid.specs.Cid.{CidParts}
use Rattle.tg_car.specs.CarText.{HeaderText}
use Rattle.tg_cid.specs.Spelling.{CidBytes}
use Rattle.tg_files.specs.Folders.{AttachedAt, FolderQuiet, FolderRose, SameFolder, TellsFolder}
use Rattle.tg_files.specs.Packs.PackWrite.{attach, overwrite, torn}
use Rattle.tg_files.specs.Packs.{Did, PackRose, PackStep, PackWrite, SameContent}
use Rattle.tg_import.specs.Counting.{nothing}
use Rattle.tg_import.specs.Refused.{HasFolderFault, max_levels}
use Rattle.tg_import.specs.declared.fault.ImportFault.{ImportFault}
use Rattle.tg_import.specs.declared.fault.ImportFault.TheVariants as faults
use Rattle.tg_import.specs.declared.summary.Options.{Options}
use Rattle.tg_import.specs.declared.summary.Summary.{Summary}
use Rattle.tg_import.specs.Packing.{IsPacked, IsPackingCause}
use Rattle.tg_store.specs.Filling.{IsBegun, IsUnfinished}
use Rattle.tg_model.specs.Texts.{escaped}
use Rattle.tg_streams.specs.Streams.{Output, PutFront}
use Rattle.tg_tree.specs.declared.tree.Tree.{Tree}
use Rattle.tg_words.specs.ImportLines.{ImportParts}

abbrev pub options_of : ImportParts → Options
options_of parts = record { chunk = parts.chunk; width = parts.width; shard = parts.shard }

-- how many files, folders, sharded folders and bytes were imported
abbrev pub summary_line : Summary → List ℕ
summary_line summary = codes "files " ++ (decimal summary.files ++ (codes " folders " ++ (decimal summary.folders
    ++ (codes " shards " ++ (decimal summary.shards ++ (codes " bytes " ++ (decimal summary.bytes ++ line_feed ∷ [])))))))

-- the root's text on a line, and then the summary's
pub record ImportLines (root : CidParts) (summary : Summary) (text : List ℕ) : Type 0 where
  pub first : List ℕ
  pub first_is : TextLine root first
  pub whole : text ≡ first ++ summary_line summary

-- how it ends to put them: all of it was put, out failed after a front of it, or memory was wanted
pub record PutsLines (root : CidParts) (summary : Summary) (put : List ℕ → Type 0) : Type 0 where
  pub text : List ℕ
  pub lines : ImportLines root summary text
  pub is_put : put text

abbrev pub LinesEnd : CidParts → Summary → Output → Option CommandFault → Type 0
LinesEnd root summary out None = PutsLines root summary (λ text. PutAll text out)
LinesEnd root summary out (Some refusals.SinkFault) = PutsLines root summary (λ text. PutFront text out)
LinesEnd root summary out (Some refusals.OutOfMemory) = OutputUntouched out
LinesEnd root summary out (Some other) = ⊥

-- the folder is attached at the path that the words name, and the pack, made empty, at its own
pub record AreAttached (parts : ImportParts) (files : Files) : Type 0 where
  pub folder : AttachedAt parts.folder files.folder
  pub pack : files.pack.place_new ≡ Some (record { path = parts.pack; fresh = true })

-- the pack was made empty at this path, the header of a CAR that isn't finished and more were added, and at last the
-- header with the root was written over it, whether the pack tells its content or not
pub record WritesPackAt (path : List ℕ) (root : CidParts) (step : PackStep) : Type 0 where
  pub writes : List PackWrite
  pub begins : IsBegun writes
  pub name : List ℕ
  pub spelled : CidBytes root name
  pub header : List ℕ
  pub text : HeaderText ((0 ∷ name) ∷ []) header
  pub did : Did (attach path true ∷ (writes ++ overwrite 0 header ∷ [])) step

-- it was made empty there, and then that front was added and more, or the first write failed
pub record StopsWritingAt (path : List ℕ) (step : PackStep) : Type 0 where
  pub writes : List PackWrite
  pub begins : (writes ≡ torn ∷ []) ⊎ IsBegun writes
  pub did : Did (attach path true ∷ writes) step

-- the folder was imported, the pack is the CAR of its DAG, and of the root and the summary this holds
pub record IsInPack (parts : ImportParts) (files : Files) (said : CidParts → Summary → Type 0) : Type 0 where
  pub root : CidParts
  pub summary : Summary
  pub attached : AreAttached parts files
  pub tells : TellsFolder files.folder.tree_new
  pub packed : IsPacked (options_of parts) files.folder.tree_new root summary files.pack
  pub written : WritesPackAt parts.pack root files.pack
  pub quiet : FolderQuiet files.folder
  pub is_said : said root summary

-- a path as a line shows it: its segments in percent-encoding, slashes between them
abbrev pub path_text : List (List ℕ) → List ℕ
path_text [] = []
path_text (name ∷ path) = escaped name ++ flat_map (λ next. slash ∷ escaped next) path

-- the refusal that tells why an import ended
abbrev pub refusal_of_import : ImportFault → CommandFault
refusal_of_import faults.Folder = refusals.FolderFault
refusal_of_import faults.Keep = refusals.PackFault
refusal_of_import (faults.TooDeep path) = refusals.DeepFolder (path_text path)
refusal_of_import (faults.BadName path) = refusals.BadName (path_text path)
refusal_of_import (faults.LongName path) = refusals.LongName (path_text path)
refusal_of_import (faults.SameHash first second) = refusals.SameHash (escaped first ++ (codes " " ++ escaped second))
refusal_of_import (faults.NotPlain path) = refusals.NotPlain (path_text path)
refusal_of_import (faults.TooBig path) = refusals.TooBig (path_text path)
refusal_of_import faults.OutOfMemory = refusals.OutOfMemory

-- a fault of which a path or names are shown
abbrev pub HasText : ImportFault → Type 0
HasText faults.Folder = ⊥
HasText faults.Keep = ⊥
HasText faults.OutOfMemory = ⊥
HasText fault = ⊤

-- the refusal of an import that ended with this fault; memory may be wanted for the text of a path or of a name
abbrev pub IsImportRefusal : ImportFault → CommandFault → Type 0
IsImportRefusal fault refusal = (refusal ≡ refusal_of_import fault) ⊎ (HasText fault × (refusal ≡ refusals.OutOfMemory))

-- the folder can't be attached, and stays where it was; the pack is the one that it was
pub record NoFolder (files : Files) (out : Output) (refusal : CommandFault) : Type 0 where
  pub folder : SameFolder files.folder
  pub same : files.same_pack
  pub rose : FolderRose files.folder
  pub unput : OutputUntouched out
  pub is : refusal ≡ refusals.FolderFault

-- the folder is attached at its path, and the pack can't be attached
pub record NoPack (parts : ImportParts) (files : Files) (out : Output) (refusal : CommandFault) : Type 0 where
  pub folder : AttachedAt parts.folder files.folder
  pub quiet : FolderQuiet files.folder
  pub same : SameContent files.pack
  pub rose : PackRose files.pack
  pub unput : OutputUntouched out
  pub is : refusal ≡ refusals.PackFault

-- the import was refused; the pack, as far as it is told, isn't finished
pub record ImportRefused (parts : ImportParts) (files : Files) (out : Output) (refusal : CommandFault) : Type 0 where
  pub fault : ImportFault
  pub is : IsImportRefusal fault refusal
  pub attached : AreAttached parts files
  pub tells : TellsFolder files.folder.tree_new
  pub cause : IsPackingCause (options_of parts) files.folder.tree_new fault files.folder files.pack
  pub unfinished : IfSome files.pack.content_new IsUnfinished
  pub stopped : StopsWritingAt parts.pack files.pack
  pub unput : OutputUntouched out

-- memory was wanted for the lines behind an import that was done
pub record ImportUnsaid (parts : ImportParts) (files : Files) (out : Output) (refusal : CommandFault) : Type 0 where
  pub in_pack : IsInPack parts files (λ root summary. OutputUntouched out)
  pub is : refusal ≡ refusals.OutOfMemory

-- nothing was done for want of memory
pub record ImportUnbegun (files : Files) (out : Output) (refusal : CommandFault) : Type 0 where
  pub same_folder : files.same_folder
  pub same_pack : files.same_pack
  pub unput : OutputUntouched out
  pub is : refusal ≡ refusals.OutOfMemory

-- out failed in the lines behind an import that was done
pub record ImportUnput (parts : ImportParts) (files : Files) (out : Output) (refusal : CommandFault) : Type 0 where
  pub in_pack : IsInPack parts files (λ root summary. PutsLines root summary (λ text. PutFront text out))
  pub is : refusal ≡ refusals.SinkFault

-- it was done
abbrev pub Imported : ImportParts → Files → Output → Type 0
Imported parts files out = IsInPack parts files (λ root summary. PutsLines root summary (λ text. PutAll text out))

-- why the import of an attached folder was refused
abbrev pub AttachedRefused : ImportParts → Files → Output → CommandFault → Type 0
AttachedRefused parts files out refusal =
    ImportRefused parts files out refusal
    ⊎ (NoPack parts files out refusal ⊎ (ImportUnput parts files out refusal ⊎ ImportUnsaid parts files out refusal))

-- how the import of an attached folder ends, and `import`
abbrev pub AttachedAnswers : ImportParts → Files → Output → Option CommandFault → Type 0
AttachedAnswers parts files out None = Imported parts files out
AttachedAnswers parts files out (Some refusal) = AttachedRefused parts files out refusal

abbrev pub ImportAnswers : ImportParts → Files → Output → Option CommandFault → Type 0
ImportAnswers parts files out None = Imported parts files out
ImportAnswers parts files out (Some refusal) =
    AttachedRefused parts files out refusal ⊎ (NoFolder files out refusal ⊎ ImportUnbegun files out refusal)

-- nothing in the folder, as far as it is told, is a cause of a refusal
abbrev pub IsGoodFolder : Options → Option Tree → Type 0
IsGoodFolder options told = (fault : ImportFault) → HasFolderFault max_levels options told [] nothing fault → ⊥
