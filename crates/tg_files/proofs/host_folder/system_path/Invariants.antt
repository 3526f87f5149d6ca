use Rattle.std.proofs.Common.{◌≡◌, All, drop, string_bytes, take}
use Rattle.tg_files.specs.Folders.{IsTextName, path_below}
use Rattle.tg_files.proofs.host_folder.system_path.Given as goal

-- the names that were passed lead into folders, and the path stands for them
abbrev pub invariant-loop-name : goal.invariant-loop-name
invariant-loop-name l = record {
  path : path_below l.root l.names ≡ path_below (string_bytes l.path) (drop l.name-index l.names);
  passed : All IsTextName (take l.name-index l.names);
}
