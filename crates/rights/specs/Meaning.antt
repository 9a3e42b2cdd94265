-- What a flattened requirement means: a level, and a set of subjects.
use Rattle.std.specs.Prelude.{◌≡◌, ℕ, ◌+◌, ◌<◌, ◌≤◌, Bool, true, ◌&&◌}
use Rattle.rights.specs.Subjects.{Who, may}
use Rattle.rights.specs.declared.directory.Directory.{Directory}

pub record Meaning (F : Type 0) : Type 0 where
  pub level : F → ℕ
  pub admits : F → Who → Bool
  pub everyone : F
  pub narrowed : F → Directory → F
  -- what the question of sameness answers
  pub same : F → F → Bool

-- what every form keeps
pub record Lawful {F : Type 0} (m : Meaning F) : Type 0 where
  pub fresh : m.level m.everyone ≡ 0
  pub whole : (w : Who) → m.admits m.everyone w ≡ true
  pub bounded : (f : F) → m.level f ≤ 16
  pub deeper : (f : F) (d : Directory) → m.level f < 16 → m.level (m.narrowed f d) ≡ m.level f + 1
  pub narrower : (f : F) (d : Directory) (w : Who) → m.level f < 16 → m.admits (m.narrowed f d) w ≡ (m.admits f w && may w d)
  pub equal : (f g : F) (w : Who) → m.same f g ≡ true → m.admits f w ≡ m.admits g w
