use Rattle.std.proofs.Common.{◌≡◌, ℕ, List, ◌++◌, ap, append_assoc, ◌∙◌}
use Rattle.tg_words.proofs.help.push_program.Goals as goal

three : (a b c d x y z : List ℕ) → b ≡ a ++ x → c ≡ b ++ y → d ≡ c ++ z → d ≡ a ++ (x ++ (y ++ z))
three a b c d x y z first second third =
    third ∙ ap (λ t. t ++ z) (second ∙ ap (λ t. t ++ y) first) ∙ append_assoc (a ++ x) y z ∙ append_assoc a x (y ++ z)

pub returns : goal.returns
returns c =
    three _ _ _ _ _ _ _ (c.in_ok-push_all.ensures.ok ∙ ap (λ t. c.args.text.now ++ t) c.as_bytes.ensures.value) c.in_ok-push_summaries.ensures
    (c.in_ok-push_all-2.ensures.ok ∙ ap (λ t. c.push_summaries.new.text ++ t) c.as_bytes-2.ensures.value)
