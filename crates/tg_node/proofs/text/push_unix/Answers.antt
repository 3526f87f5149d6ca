use Rattle.std.proofs.Common.{◌++◌, [], ◌∷◌, length, Some, codes, ◌∙◌}
use Rattle.tg_bytes.specs.Lists.{behind_parts}
use Rattle.tg_node.specs.NodeTexts.{labelled, inline_length}
use Rattle.tg_node.proofs.text.push_unix.Goals as goal

pub returns : goal.returns
returns c =
    let unix = c.args.unix.now in
    let third = rw c.inline_length.ensures at c.in_ok-push_number-3.ensures in
    let fourth = rw c.as_slice.ensures at c.in_ok-push_number-4.ensures in
    let kind = labelled (codes "unix ") (Some unix.kind) in
    let filesize = labelled (codes " filesize ") unix.filesize in
    let inline = labelled (codes " inline ") (inline_length unix.inline) in
    let sizes = labelled (codes " sizes ") (Some (length unix.sizes)) in
    let hash = labelled (codes " hash ") unix.hash in
    let fanout = labelled (codes " fanout ") unix.fanout in
    let end = 10 ∷ [] in
    c.in_ok-push_all.ensures.ok
    ∙ behind_parts c.push_number-5.new.text fanout end c.push_number-6.new.text c.in_ok-push_number-6.ensures
    ∙ behind_parts c.push_number-4.new.text hash (fanout ++ end) c.push_number-5.new.text c.in_ok-push_number-5.ensures
    ∙ behind_parts c.push_number-3.new.text sizes (hash ++ (fanout ++ end)) c.push_number-4.new.text fourth
    ∙ behind_parts c.push_number-2.new.text inline (sizes ++ (hash ++ (fanout ++ end))) c.push_number-3.new.text third
    ∙ behind_parts c.push_number.new.text filesize (inline ++ (sizes ++ (hash ++ (fanout ++ end)))) c.push_number-2.new.text c.in_ok-push_number-2.ensures
    ∙ behind_parts c.args.text.now kind (filesize ++ (inline ++ (sizes ++ (hash ++ (fanout ++ end))))) c.push_number.new.text c.in_ok-push_number.ensures
