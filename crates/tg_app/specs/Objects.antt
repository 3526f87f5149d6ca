-- The objects that a command is handed: a folder, a pack, which it gives back, an extract that makes a folder, a door, a dial, its input
-- and out.
use Rattle.std.specs.Prelude.{◌≡◌, ℕ, Option}
use Rattle.tg_app.specs.Makings.{Making, making_between}
use Rattle.tg_commands.specs.Files.{Files, files_between}
use Rattle.tg_dials.specs.Dials.{DialMeaning, Dialling, at_dial}
use Rattle.tg_doors.specs.Doors.{DoorMeaning, Doorway, at_door}
use Rattle.tg_extract.specs.Extracts.{ExtractState}
use Rattle.tg_files.specs.Folders.{FolderMeaning}
use Rattle.tg_files.specs.Packs.{PackMeaning}
use Rattle.tg_links.specs.Links.{LinkMeaning}
use Rattle.tg_new_tree.specs.NewTrees.{NewTreeMeaning}
use Rattle.tg_serve.specs.Serving.{LinksTell}
use Rattle.tg_streams.specs.Streams.{Input, Output, SinkMeaning, SourceMeaning, into, through}

-- what became of a door, whether it is the one that it was, whether its links tell what goes through them, and which ports it was
-- asked to bind
pub record Entrance : Type 1 where
  pub doorway : Doorway
  pub same_door : Type 0
  pub links_tell : Type 0
  pub asked : ℕ → Type 0

abbrev pub entrance_between : {L K : Type 0} → DoorMeaning L → LinkMeaning K → L → L → Entrance
entrance_between doors links door door' =
    record { doorway = at_door doors door door'; same_door = door' ≡ door; links_tell = LinksTell links; asked = doors.asked door door' }

-- what became of a dial, and whether it is the one that it was
pub record DialUse : Type 1 where
  pub dialling : Dialling
  pub same_dial : Type 0

abbrev pub dial_between : {D : Type 0} → DialMeaning D → D → D → DialUse
dial_between dials dial dial' = record { dialling = at_dial dials dial dial'; same_dial = dial' ≡ dial }

-- what became of a command's objects
pub record Objects : Type 1 where
  pub files : Files
  pub making : Making
  pub door : Entrance
  pub dial : DialUse
  pub input : Input
  pub out : Output

abbrev pub objects_between : {F P N L K D I O : Type 0} → FolderMeaning F → PackMeaning P → NewTreeMeaning N → DoorMeaning L → LinkMeaning K → DialMeaning D
    → SourceMeaning I → SinkMeaning O → F → F → Option P → Option P → ExtractState N → ExtractState N → L → L → D → D → I → I → O → O → Objects
objects_between folders packs trees doors links dials inputs outs folder folder' pack pack' making making' door door' dial dial' input input' out out' = record {
  files = files_between folders packs folder folder' pack pack';
  making = making_between trees making making';
  door = entrance_between doors links door door';
  dial = dial_between dials dial dial';
  input = through inputs input input';
  out = into outs out out';
}
