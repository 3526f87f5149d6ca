-- A tree in a pack in memory, from what an import says of any folder and pack.
use Rattle.std.proofs.Common.{IfSome, List, None, Option, Some, [], refl, subst, ℕ, ◌≡◌}
use Rattle.tg_audit.specs.Faults.{fault_of_import}
use Rattle.tg_audit.specs.Packing.{IsPackedOf, IsUnpacked, audit_options}
use Rattle.tg_cid.specs.Cid.{CidParts}
use Rattle.tg_files.specs.Folders.{FolderStep}
use Rattle.tg_files.specs.Packs.{PackState, PackStep, mem_pack, pack_step}
use Rattle.tg_import.specs.Counting.{nothing}
use Rattle.tg_import.specs.Imported.{IsImported}
use Rattle.tg_import.specs.Refused.{HasFolderFault, max_levels}
use Rattle.tg_import.specs.declared.fault.ImportFault.{ImportFault}
use Rattle.tg_import.specs.declared.fault.ImportFault.TheVariants as imports
use Rattle.tg_import.specs.declared.summary.Summary.{Summary}
use Rattle.tg_import.specs.Packing.{IsPacked, IsPackingCause}
use Rattle.tg_store.specs.Filling.{IsCarOfRoot, StaysTold}
use Rattle.tg_tree.specs.declared.tree.Tree.{Tree}

-- what was told is told
told_still : (before now : Option (List ℕ)) (content : List ℕ) → before ≡ Some content → StaysTold before now → (new : List ℕ) × (now ≡ Some new)
told_still (Some before) (Some new) content is stays = (new, refl)
told_still (Some before) None content is stays = absurd stays
told_still None now content is stays = absurd (cc is)

pub packed_of : (tree : Tree) (folder : Option Tree) (root : CidParts) (summary : Summary) (before now : PackState) (content : List ℕ)
    → folder ≡ Some tree → before.content ≡ Some content → StaysTold before.content now.content
    → IsPacked audit_options folder root summary (pack_step mem_pack before now)
    → IsPackedOf tree (record { root = root; summary = summary; pack = now })
packed_of tree folder root summary before now content told full stays packed =
    let (new, is) = told_still before.content now.content content full stays in
    let car = subst (λ (o : Option (List ℕ)). IfSome o (IsCarOfRoot root packed.sections)) is packed.content in
    record {
      d = packed.d;
      content = new;
      told = is;
      holds = record {
        imported = subst (λ (t : Option Tree). IsImported audit_options t [] packed.d) told packed.imported;
        sections = packed.sections;
        all = packed.all;
        car = subst (λ (cid : CidParts). IsCarOfRoot cid packed.sections new) packed.root_is car;
      };
      root = packed.root_is;
      counts = packed.counts;
    }

pub unpacked_of : (tree : Tree) (folder : Option Tree) (fault : ImportFault) (step : FolderStep) (pack : PackStep) → folder ≡ Some tree
    → IsPackingCause audit_options folder fault step pack → IsUnpacked tree (fault_of_import fault)
unpacked_of tree folder imports.Folder step pack told h = tt
unpacked_of tree folder imports.Keep step pack told h = tt
unpacked_of tree folder imports.OutOfMemory step pack told h = tt
unpacked_of tree folder (imports.TooDeep at) step pack told h =
    subst (λ (t : Option Tree). HasFolderFault max_levels audit_options t [] nothing (imports.TooDeep at)) told h.2
unpacked_of tree folder (imports.BadName at) step pack told h =
    subst (λ (t : Option Tree). HasFolderFault max_levels audit_options t [] nothing (imports.BadName at)) told h.2
unpacked_of tree folder (imports.LongName at) step pack told h =
    subst (λ (t : Option Tree). HasFolderFault max_levels audit_options t [] nothing (imports.LongName at)) told h.2
unpacked_of tree folder (imports.SameHash first second) step pack told h =
    subst (λ (t : Option Tree). HasFolderFault max_levels audit_options t [] nothing (imports.SameHash first second)) told h.2
unpacked_of tree folder (imports.NotPlain at) step pack told h =
    subst (λ (t : Option Tree). HasFolderFault max_levels audit_options t [] nothing (imports.NotPlain at)) told h.2
unpacked_of tree folder (imports.TooBig at) step pack told h =
    subst (λ (t : Option Tree). HasFolderFault max_levels audit_options t [] nothing (imports.TooBig at)) told h.2
