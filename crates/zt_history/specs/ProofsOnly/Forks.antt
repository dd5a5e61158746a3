-- Where the paths to two moments part, and the ways up a path: jumps, and runs of moments in a row. Used by proofs only.
use Rattle.std.specs.Prelude.{◌≡◌, ◌≤◌, ◌-◌, ℕ, suc, List, length, take, Some, slice_get}
use Rattle.zt_history.specs.declared.moments.Shortcut.{Shortcut}
use Rattle.zt_history.specs.Tree.{Made, path}

-- the path to the moment begins with the path to this one
pub record IsAbove (made : List Made) (up moment : ℕ) : Type 0 where
  pub begins : path made up ≡ take (length (path made up)) (path made moment)

-- the moment's jump may lead to this one, which is earlier unless both are the opening
pub record IsJump (made : List Made) (up moment : ℕ) : Type 0 where
  pub earlier : up ≤ moment - 1
  pub above : IsAbove made up moment

-- the moment's run may begin with this one: all moments from there to the moment are on its path
pub record IsRun (made : List Made) (first moment : ℕ) : Type 0 where
  pub within : first ≤ moment
  pub above : (m : ℕ) → first ≤ m → m ≤ moment → IsAbove made m moment

-- the run of the next moment to be made, at this parent, may begin with `first`: all moments from there on are on the parent's path
pub record IsRunBeyond (made : List Made) (first parent : ℕ) : Type 0 where
  pub within : first ≤ suc (length made)
  pub above : (m : ℕ) → first ≤ m → m ≤ length made → IsAbove made m parent

pub record IsShortcut (made : List Made) (shortcut : Shortcut) (moment : ℕ) : Type 0 where
  pub jump : IsJump made shortcut.jump moment
  pub run : IsRun made shortcut.first moment

-- the shortcuts of the moments after the opening
abbrev pub AreShortcuts : List Made → List Shortcut → Type 0
AreShortcuts made shortcuts = (i : ℕ) (s : Shortcut) → slice_get shortcuts i ≡ Some s → IsShortcut made s (suc i)
