-- What the masks of a text of at most 128 bytes are.
use Rattle.std.specs.Prelude.{◌≡◌, ℕ, List}
use Rattle.rope_chunks.specs.declared.masks.Masks.{Masks}
use Rattle.text_dims.specs.Counts.{begins_char, begins_wide, is_newline}
use Rattle.text_dims.specs.Masks.{mask_of}

pub record AreMasks (m : Masks) (bs : List ℕ) : Type 0 where
  pub starts : m.starts ≡ mask_of begins_char bs
  pub wide : m.wide ≡ mask_of begins_wide bs
  pub newlines : m.newlines ≡ mask_of is_newline bs
