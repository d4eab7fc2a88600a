mod Refused
mod Making
mod Reducts
mod RepliesExist
mod MakeExists
mod MadeTables
