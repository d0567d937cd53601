-- MsgTag of every message, and the eight types (source document 000, sections 2.2.9 and 2.2.10).
use Rattle.std.specs.Prelude.{ℕ}

abbrev pub tag : ℕ
tag = 0x00000FFF

abbrev pub create_rm : ℕ
create_rm = 0x1051

abbrev pub commit_request : ℕ
commit_request = 0x2011

abbrev pub commit_request_done : ℕ
commit_request_done = 0x2012

abbrev pub commit_retry : ℕ
commit_retry = 0x2013

abbrev pub check_abort : ℕ
check_abort = 0x2021

abbrev pub check_aborted : ℕ
check_aborted = 0x2022

abbrev pub check_retry : ℕ
check_retry = 0x2023

abbrev pub branch : ℕ
branch = 0x2051
