use Rattle.std.proofs.Common.{◌≡◌, ◌++◌, take}
use Rattle.std.specs.List.{flat_map}
use Rattle.tg_words.specs.Help.{form_line}
use Rattle.tg_words.proofs.help.push_forms.Given as goal

-- the lines of the forms so far
abbrev pub invariant-loop-form : goal.invariant-loop-form
invariant-loop-form l = l.text ≡ l.initial.text ++ flat_map (λ form. form_line form.now) (take l.form-index l.forms)
