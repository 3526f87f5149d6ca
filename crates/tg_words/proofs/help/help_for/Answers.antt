use Rattle.std.proofs.Common.{◌≡◌, refl, ap, sym, ◌∙◌}
use Rattle.tg_words.specs.Help.{CommandTexts, help_of}
use Rattle.tg_words.specs.declared.names.CommandName.{CommandName}
use Rattle.tg_words.proofs.help.help_for.Goals as goal

at_name : (texts : CommandTexts) (name other : CommandName) → name ≡ other → texts ≡ help_of other → texts ≡ help_of name
at_name texts name other is same = same ∙ sym (ap help_of is)

pub returns-in-Check : goal.returns-in-Check
returns-in-Check c = at_name _ _ _ c.in-Check.is refl

pub returns-in-Node : goal.returns-in-Node
returns-in-Node c = at_name _ _ _ c.in-Node.is refl

pub returns-in-Cid : goal.returns-in-Cid
returns-in-Cid c = at_name _ _ _ c.in-Cid.is refl

pub returns-in-Export : goal.returns-in-Export
returns-in-Export c = at_name _ _ _ c.in-Export.is refl

pub returns-in-Import : goal.returns-in-Import
returns-in-Import c = at_name _ _ _ c.in-Import.is refl

pub returns-in-Verify : goal.returns-in-Verify
returns-in-Verify c = at_name _ _ _ c.in-Verify.is refl

pub returns-in-Serve : goal.returns-in-Serve
returns-in-Serve c = at_name _ _ _ c.in-Serve.is refl

pub returns-in-Fetch : goal.returns-in-Fetch
returns-in-Fetch c = at_name _ _ _ c.in-Fetch.is refl

pub returns-in-Mirror : goal.returns-in-Mirror
returns-in-Mirror c = at_name _ _ _ c.in-Mirror.is refl

pub returns-in-Swarm : goal.returns-in-Swarm
returns-in-Swarm c = at_name _ _ _ c.in-Swarm.is refl

pub returns-in-Audit : goal.returns-in-Audit
returns-in-Audit c = at_name _ _ _ c.in-Audit.is refl

pub returns-in-Help : goal.returns-in-Help
returns-in-Help c = at_name _ _ _ c.in-Help.is refl

pub returns-in-Version : goal.returns-in-Version
returns-in-Version c = at_name _ _ _ c.in-Version.is refl
