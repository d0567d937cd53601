-- The events by name, without their detail, in the order of the paper.
use Rattle.std.specs.Prelude.{ℕ}

abbrev pub begin : ℕ
begin = 1

abbrev pub enlist : ℕ
enlist = 2

abbrev pub commit : ℕ
commit = 3

abbrev pub zero_done : ℕ
zero_done = 4

abbrev pub vote : ℕ
vote = 5

abbrev pub rollback : ℕ
rollback = 6

abbrev pub reply : ℕ
reply = 7

abbrev pub ack : ℕ
ack = 8

abbrev pub lost : ℕ
lost = 9

abbrev pub ask : ℕ
ask = 10

abbrev pub reenlisted : ℕ
reenlisted = 11
