-- How a link names a place. Assumes nothing.
use Rattle.std.specs.Prelude.{ℕ, ◌+◌, Some, None, Option}

-- one past the place that an option names, and 0 where it names none
abbrev pub after : Option ℕ → ℕ
after None = 0
after (Some p) = p + 1
