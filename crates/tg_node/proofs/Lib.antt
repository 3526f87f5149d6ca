mod NodeLines
