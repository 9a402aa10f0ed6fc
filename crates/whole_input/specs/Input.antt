-- What reading into lent bytes came to.
use Rattle.std.specs.Prelude.{ℕ, Result, Ok, Err}

-- how many bytes were read, also those before a read that failed
abbrev pub count_of : Result ℕ ℕ → ℕ
count_of (Ok n) = n
count_of (Err n) = n
