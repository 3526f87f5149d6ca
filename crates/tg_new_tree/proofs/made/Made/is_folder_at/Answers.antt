use Rattle.std.proofs.Common.{◌≡◌}
use Rattle.std.proofs.lemmas.Slice.Eq.{bytes_eq-Decides, slice_eq-Decides}
use Rattle.tg_new_tree.proofs.made.Made.is_folder_at.Goals as goal

pub returns-in-Folder : goal.returns-in-Folder
returns-in-Folder c =
    let decides = slice_eq-Decides bytes_eq-Decides _ _ _ c.eq.ensures in (
      λ equal. let same : c.as_slice.result.now ≡ c.args.path.now = decides.0 equal in cc,
      λ is. let same : c.as_slice.result.now ≡ c.args.path.now = cc in decides.1 same,
    )
