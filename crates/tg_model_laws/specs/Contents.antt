-- The content of children that aren't parts.
use Rattle.std.specs.Prelude.{◌≡◌, [], refl}
use Rattle.tg_model.specs.Content.{content_of_children}
use Rattle.tg_model.specs.Dag.{Children, no_child, with_child}

-- children that aren't parts give no content
pub no_content : (children : Children) → content_of_children [] children ≡ []
no_content no_child = refl
no_content (with_child d children) = refl
