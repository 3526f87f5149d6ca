use Rattle.std.proofs.Common.{◌≡◌, ◌∙◌, All, sym, subst, true≢false}
use Rattle.std.proofs.lemmas.List.Elements.{All-push}
use Rattle.tg_files.proofs.Entries.{entries_more}
use Rattle.tg_files.specs.TempNames.{BeginsWith}
use Rattle.tg_tree.specs.declared.items.Item.{Item}
use Rattle.tg_files.proofs.host_folder.Listing.add.Goals as goal

pub returns-clause-others : goal.returns-clause-others
returns-clause-others g c =
    let front = c.args.left_out.now in
    let item = c.in_ok-item.item in
    let is : item.name ≡ c.file_name.result.now = c.in_ok-item.ensures.name ∙ sym c.file_name.ensures in
    let not_left_out : BeginsWith front item.name → ⊥ = λ begins.
    true≢false (sym (c.begins_with.ensures.1 (subst (BeginsWith front) is begins)) ∙ c.if-begins_with.false) in
    λ kept.
    subst (All (λ (item : Item). BeginsWith front item.name → ⊥)) (sym c.in_ok-push-2.ensures.ok) (All-push (λ (item : Item). BeginsWith front item.name → ⊥) _ item kept not_left_out)

pub returns-clause-entries : goal.returns-clause-entries
returns-clause-entries g c = λ listed.
    entries_more c.args.folder.now c.args.self.now.items c.push-2.new.self c.args.self.now.found.items c.push.new.self.items c.in_ok-item.item c.in_ok-item.path c.in_ok-item.listed listed c.in_ok-item.ensures.path c.in_ok-push-2.ensures.ok c.in_ok-push.ensures.items
