-- A text under way in a lent buffer, and bytes added behind it.
use Rattle.std.specs.Prelude.{ℕ, ◌+◌, ◌≡◌, List, length}
use Rattle.bigendian.specs.Bytes.{put}
use Rattle.lines.specs.declared.text.Text.{Text}

-- the bytes are put behind those that are written, and no others, in the same buffer
pub record Added (t : Text) (bytes : List ℕ) (t' : Text) : Type 0 where
  pub same_buffer : t'.buffer.ghost_name ≡ t.buffer.ghost_name
  pub room : length t'.buffer.now ≡ length t.buffer.now
  pub behind : t'.length ≡ t.length + length bytes
  pub holds : t'.buffer.now ≡ put t.buffer.now t.length bytes
